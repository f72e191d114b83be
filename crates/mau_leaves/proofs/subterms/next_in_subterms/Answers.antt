use Rattle.std.proofs.Common.{Ok, Err, refl, sym, ap, ◌∙◌, subst}
use Rattle.mau_store.proofs.Growth.{extension_is_preorder}
use Rattle.mau_sorts.proofs.Settling.{kept_on, kept_same}
use Rattle.mau_api.specs.Meanings.{Meanings}
use Rattle.mau_api.specs.Programs.{program_over}
use Rattle.mau_rules.specs.Runnable.{GoesBy}
use Rattle.mau_leaves.specs.Searches.{IsTurn}
use Rattle.mau_leaves.specs.Subterms.{left_of_subterms, use_at_spot, IsSubtermSearch}
use Rattle.mau_leaves.specs.declared.turn.Turn.{Turn}
use Rattle.mau_leaves.proofs.Steps.{found_then, passed_then, over_then, ends_then, none_passed}
use Rattle.mau_leaves.proofs.subterms.next_in_subterms.Goals as goal

pub loop-init : goal.loop-init
loop-init g c =
    let m = g.E.Evaluator.meanings c.args.evaluator.now in
    let p = c.args.program.now in
    let rule = c.args.rule.now in
    record {
      passed = none_passed (program_over p m.hooks) (left_of_subterms g.L.Lister.asked g.L.Lister.given p m.hooks rule c.args.store.now c.args.search.now);
      subterms = c.requires.subterms;
      meanings = refl;
      fits = c.requires.fits;
      extends = extension_is_preorder.reflexive c.args.store.now;
      kept = kept_same (g.E.Evaluator.table c.args.evaluator.now);
    }

pub turn_below-requires-clause-goes_by : goal.turn_below-requires-clause-goes_by
turn_below-requires-clause-goes_by g c = subst (GoesBy c.args.program.now) (sym c.loop.invariant.meanings) c.requires.goes_by

pub turn_below-requires-clause-limit : goal.turn_below-requires-clause-limit
turn_below-requires-clause-limit g c = c.requires.limit ∙ ap (λ (m : Meanings). m.limit) (sym c.loop.invariant.meanings)

pub turn_below-requires-clause-subterms : goal.turn_below-requires-clause-subterms
turn_below-requires-clause-subterms g c =
    let i = c.loop.invariant in
    let m = g.E.Evaluator.meanings c.args.evaluator.now in
    let p = c.args.program.now in
    let rule = c.args.rule.now in
    subst (λ (z : Meanings). IsSubtermSearch g.L.Lister.asked g.L.Lister.given g.L.Lister.is_for g.L.Lister.with_context p z rule c.loop.store (g.E.Evaluator.table c.loop.evaluator) c.loop.search) (sym i.meanings) i.subterms

pub loop-preserved : goal.loop-preserved
loop-preserved g c =
    let i = c.loop.invariant in
    let m = g.E.Evaluator.meanings c.args.evaluator.now in
    let p = c.args.program.now in
    let rule = c.args.rule.now in
    let told = subst (λ (z : Meanings). IsTurn (program_over p z.hooks) c.args.limit (left_of_subterms g.L.Lister.asked g.L.Lister.given p z.hooks rule c.loop.store c.loop.search)
    (left_of_subterms g.L.Lister.asked g.L.Lister.given p z.hooks rule c.turn_below.new.store c.turn_below.new.search) (use_at_spot g.L.Lister.asked g.L.Lister.given rule c.turn_below.new.store c.turn_below.new.search.spot) (Ok c.in-Ok-Passed.field-0)) i.meanings c.in-Ok-Passed.ensures.turn in
    record {
      passed = passed_then (program_over p m.hooks) c.args.limit (left_of_subterms g.L.Lister.asked g.L.Lister.given p m.hooks rule c.args.store.now c.args.search.now) (left_of_subterms g.L.Lister.asked g.L.Lister.given p m.hooks rule c.loop.store c.loop.search) (left_of_subterms g.L.Lister.asked g.L.Lister.given p m.hooks rule c.turn_below.new.store c.turn_below.new.search)
          (use_at_spot g.L.Lister.asked g.L.Lister.given rule c.turn_below.new.store c.turn_below.new.search.spot) i.passed
          (subst (λ (t : Turn). IsTurn (program_over p m.hooks) c.args.limit (left_of_subterms g.L.Lister.asked g.L.Lister.given p m.hooks rule c.loop.store c.loop.search) (left_of_subterms g.L.Lister.asked g.L.Lister.given p m.hooks rule c.turn_below.new.store c.turn_below.new.search)
          (use_at_spot g.L.Lister.asked g.L.Lister.given rule c.turn_below.new.store c.turn_below.new.search.spot) (Ok t)) c.in-Ok-Passed.field-0-is told);
      subterms = subst (λ (z : Meanings). IsSubtermSearch g.L.Lister.asked g.L.Lister.given g.L.Lister.is_for g.L.Lister.with_context p z rule c.turn_below.new.store (g.E.Evaluator.table c.turn_below.new.evaluator) c.turn_below.new.search) i.meanings c.turn_below.ensures.subterms;
      meanings = c.turn_below.ensures.meanings ∙ i.meanings;
      fits = c.turn_below.ensures.fits;
      extends = extension_is_preorder.transitive c.args.store.now c.loop.store c.turn_below.new.store i.extends c.turn_below.ensures.extends;
      kept = kept_on (g.E.Evaluator.table c.args.evaluator.now) (g.E.Evaluator.table c.loop.evaluator) (g.E.Evaluator.table c.turn_below.new.evaluator) i.kept c.turn_below.ensures.kept;
    }

pub returns-in-Ok-Found-clause-next : goal.returns-in-Ok-Found-clause-next
returns-in-Ok-Found-clause-next g c =
    let i = c.loop.invariant in
    let m = g.E.Evaluator.meanings c.args.evaluator.now in
    let p = c.args.program.now in
    let rule = c.args.rule.now in
    let told = subst (λ (z : Meanings). IsTurn (program_over p z.hooks) c.args.limit (left_of_subterms g.L.Lister.asked g.L.Lister.given p z.hooks rule c.loop.store c.loop.search)
    (left_of_subterms g.L.Lister.asked g.L.Lister.given p z.hooks rule c.turn_below.new.store c.turn_below.new.search) (use_at_spot g.L.Lister.asked g.L.Lister.given rule c.turn_below.new.store c.turn_below.new.search.spot) (Ok c.in-Ok-Found.field-0)) i.meanings c.in-Ok-Found.ensures.turn in
    found_then (program_over p m.hooks) c.args.limit (left_of_subterms g.L.Lister.asked g.L.Lister.given p m.hooks rule c.args.store.now c.args.search.now) (left_of_subterms g.L.Lister.asked g.L.Lister.given p m.hooks rule c.loop.store c.loop.search) (left_of_subterms g.L.Lister.asked g.L.Lister.given p m.hooks rule c.turn_below.new.store c.turn_below.new.search)
    (use_at_spot g.L.Lister.asked g.L.Lister.given rule c.turn_below.new.store c.turn_below.new.search.spot) i.passed
    (subst (λ (t : Turn). IsTurn (program_over p m.hooks) c.args.limit (left_of_subterms g.L.Lister.asked g.L.Lister.given p m.hooks rule c.loop.store c.loop.search) (left_of_subterms g.L.Lister.asked g.L.Lister.given p m.hooks rule c.turn_below.new.store c.turn_below.new.search)
    (use_at_spot g.L.Lister.asked g.L.Lister.given rule c.turn_below.new.store c.turn_below.new.search.spot) (Ok t)) c.in-Ok-Found.field-0-is told)

pub returns-in-Ok-Over-clause-next : goal.returns-in-Ok-Over-clause-next
returns-in-Ok-Over-clause-next g c =
    let i = c.loop.invariant in
    let m = g.E.Evaluator.meanings c.args.evaluator.now in
    let p = c.args.program.now in
    let rule = c.args.rule.now in
    let told = subst (λ (z : Meanings). IsTurn (program_over p z.hooks) c.args.limit (left_of_subterms g.L.Lister.asked g.L.Lister.given p z.hooks rule c.loop.store c.loop.search)
    (left_of_subterms g.L.Lister.asked g.L.Lister.given p z.hooks rule c.turn_below.new.store c.turn_below.new.search) (use_at_spot g.L.Lister.asked g.L.Lister.given rule c.turn_below.new.store c.turn_below.new.search.spot) (Ok c.in-Ok-Over.field-0)) i.meanings c.in-Ok-Over.ensures.turn in
    over_then (program_over p m.hooks) c.args.limit (left_of_subterms g.L.Lister.asked g.L.Lister.given p m.hooks rule c.args.store.now c.args.search.now) (left_of_subterms g.L.Lister.asked g.L.Lister.given p m.hooks rule c.loop.store c.loop.search) (left_of_subterms g.L.Lister.asked g.L.Lister.given p m.hooks rule c.turn_below.new.store c.turn_below.new.search)
    (use_at_spot g.L.Lister.asked g.L.Lister.given rule c.turn_below.new.store c.turn_below.new.search.spot) i.passed
    (subst (λ (t : Turn). IsTurn (program_over p m.hooks) c.args.limit (left_of_subterms g.L.Lister.asked g.L.Lister.given p m.hooks rule c.loop.store c.loop.search) (left_of_subterms g.L.Lister.asked g.L.Lister.given p m.hooks rule c.turn_below.new.store c.turn_below.new.search)
    (use_at_spot g.L.Lister.asked g.L.Lister.given rule c.turn_below.new.store c.turn_below.new.search.spot) (Ok t)) c.in-Ok-Over.field-0-is told)

pub returns-in-Err-clause-next : goal.returns-in-Err-clause-next
returns-in-Err-clause-next g c =
    let i = c.loop.invariant in
    let m = g.E.Evaluator.meanings c.args.evaluator.now in
    let p = c.args.program.now in
    let rule = c.args.rule.now in
    let told = subst (λ (z : Meanings). IsTurn (program_over p z.hooks) c.args.limit (left_of_subterms g.L.Lister.asked g.L.Lister.given p z.hooks rule c.loop.store c.loop.search)
    (left_of_subterms g.L.Lister.asked g.L.Lister.given p z.hooks rule c.turn_below.new.store c.turn_below.new.search) (use_at_spot g.L.Lister.asked g.L.Lister.given rule c.turn_below.new.store c.turn_below.new.search.spot) (Err c.in-Err.end)) i.meanings c.in-Err.ensures.turn in
    ends_then (program_over p m.hooks) c.args.limit (left_of_subterms g.L.Lister.asked g.L.Lister.given p m.hooks rule c.args.store.now c.args.search.now) (left_of_subterms g.L.Lister.asked g.L.Lister.given p m.hooks rule c.loop.store c.loop.search) (left_of_subterms g.L.Lister.asked g.L.Lister.given p m.hooks rule c.turn_below.new.store c.turn_below.new.search)
    (use_at_spot g.L.Lister.asked g.L.Lister.given rule c.turn_below.new.store c.turn_below.new.search.spot) i.passed c.in-Err.end told

pub returns-clause-next : goal.returns-clause-next
returns-clause-next g c = (c.loop.invariant.passed, tt)

pub returns-in-Ok-Found-clause-subterms : goal.returns-in-Ok-Found-clause-subterms
returns-in-Ok-Found-clause-subterms g c =
    let i = c.loop.invariant in
    let m = g.E.Evaluator.meanings c.args.evaluator.now in
    let p = c.args.program.now in
    let rule = c.args.rule.now in
    subst (λ (z : Meanings). IsSubtermSearch g.L.Lister.asked g.L.Lister.given g.L.Lister.is_for g.L.Lister.with_context p z rule c.turn_below.new.store (g.E.Evaluator.table c.turn_below.new.evaluator) c.turn_below.new.search) i.meanings c.turn_below.ensures.subterms

pub returns-in-Ok-Found-clause-kept : goal.returns-in-Ok-Found-clause-kept
returns-in-Ok-Found-clause-kept g c = kept_on (g.E.Evaluator.table c.args.evaluator.now) (g.E.Evaluator.table c.loop.evaluator) (g.E.Evaluator.table c.turn_below.new.evaluator) c.loop.invariant.kept c.turn_below.ensures.kept

pub returns-in-Ok-Found-clause-extends : goal.returns-in-Ok-Found-clause-extends
returns-in-Ok-Found-clause-extends g c = extension_is_preorder.transitive c.args.store.now c.loop.store c.turn_below.new.store c.loop.invariant.extends c.turn_below.ensures.extends

pub returns-in-Ok-Found-clause-meanings : goal.returns-in-Ok-Found-clause-meanings
returns-in-Ok-Found-clause-meanings g c = c.turn_below.ensures.meanings ∙ c.loop.invariant.meanings

pub returns-in-Ok-Over-clause-subterms : goal.returns-in-Ok-Over-clause-subterms
returns-in-Ok-Over-clause-subterms g c =
    let i = c.loop.invariant in
    let m = g.E.Evaluator.meanings c.args.evaluator.now in
    let p = c.args.program.now in
    let rule = c.args.rule.now in
    subst (λ (z : Meanings). IsSubtermSearch g.L.Lister.asked g.L.Lister.given g.L.Lister.is_for g.L.Lister.with_context p z rule c.turn_below.new.store (g.E.Evaluator.table c.turn_below.new.evaluator) c.turn_below.new.search) i.meanings c.turn_below.ensures.subterms

pub returns-in-Ok-Over-clause-kept : goal.returns-in-Ok-Over-clause-kept
returns-in-Ok-Over-clause-kept g c = kept_on (g.E.Evaluator.table c.args.evaluator.now) (g.E.Evaluator.table c.loop.evaluator) (g.E.Evaluator.table c.turn_below.new.evaluator) c.loop.invariant.kept c.turn_below.ensures.kept

pub returns-in-Ok-Over-clause-extends : goal.returns-in-Ok-Over-clause-extends
returns-in-Ok-Over-clause-extends g c = extension_is_preorder.transitive c.args.store.now c.loop.store c.turn_below.new.store c.loop.invariant.extends c.turn_below.ensures.extends

pub returns-in-Ok-Over-clause-meanings : goal.returns-in-Ok-Over-clause-meanings
returns-in-Ok-Over-clause-meanings g c = c.turn_below.ensures.meanings ∙ c.loop.invariant.meanings

pub returns-in-Err-clause-subterms : goal.returns-in-Err-clause-subterms
returns-in-Err-clause-subterms g c =
    let i = c.loop.invariant in
    let m = g.E.Evaluator.meanings c.args.evaluator.now in
    let p = c.args.program.now in
    let rule = c.args.rule.now in
    subst (λ (z : Meanings). IsSubtermSearch g.L.Lister.asked g.L.Lister.given g.L.Lister.is_for g.L.Lister.with_context p z rule c.turn_below.new.store (g.E.Evaluator.table c.turn_below.new.evaluator) c.turn_below.new.search) i.meanings c.turn_below.ensures.subterms

pub returns-in-Err-clause-kept : goal.returns-in-Err-clause-kept
returns-in-Err-clause-kept g c = kept_on (g.E.Evaluator.table c.args.evaluator.now) (g.E.Evaluator.table c.loop.evaluator) (g.E.Evaluator.table c.turn_below.new.evaluator) c.loop.invariant.kept c.turn_below.ensures.kept

pub returns-in-Err-clause-extends : goal.returns-in-Err-clause-extends
returns-in-Err-clause-extends g c = extension_is_preorder.transitive c.args.store.now c.loop.store c.turn_below.new.store c.loop.invariant.extends c.turn_below.ensures.extends

pub returns-in-Err-clause-meanings : goal.returns-in-Err-clause-meanings
returns-in-Err-clause-meanings g c = c.turn_below.ensures.meanings ∙ c.loop.invariant.meanings
