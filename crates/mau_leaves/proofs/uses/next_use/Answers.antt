use Rattle.std.proofs.Common.{Vec, Global, Ok, Err, refl, sym, ap, ◌∙◌, subst}
use Rattle.mau_terms.specs.declared.ids.TermId.{TermId}
use Rattle.mau_terms.specs.declared.ids.VarId.{VarId}
use Rattle.mau_store.proofs.Growth.{extension_is_preorder}
use Rattle.mau_sorts.proofs.Settling.{kept_on, kept_same}
use Rattle.mau_api.specs.Meanings.{Meanings}
use Rattle.mau_api.specs.Programs.{program_over}
use Rattle.mau_rules.specs.Runnable.{GoesBy}
use Rattle.mau_leaves.specs.Searches.{left_in, use_in, variables_in, IsUsable, IsSearch, IsTurn}
use Rattle.mau_leaves.specs.declared.turn.Turn.{Turn}
use Rattle.mau_leaves.proofs.Steps.{found_then, passed_then, over_then, ends_then, none_passed}
use Rattle.mau_leaves.proofs.Turns.{turn_as}
use Rattle.mau_leaves.proofs.uses.next_use.Goals as goal

pub loop-init : goal.loop-init
loop-init g c =
    let m = g.E.Evaluator.meanings c.args.evaluator.now in
    let p = c.args.program.now in
    record {
      passed = none_passed (program_over p m.hooks) (left_in p m.hooks c.args.rule.now c.args.uses.now.whole c.args.uses.now.bound.items c.args.store.now (g.L.Lister.asked c.args.uses.now.listing) (g.L.Lister.given c.args.uses.now.listing) c.args.uses.now.standing);
      search = c.requires.search;
      asked = refl;
      bound = refl;
      whole = refl;
      signature = c.requires.signature;
      meanings = refl;
      fits = c.requires.fits;
      extends = extension_is_preorder.reflexive c.args.store.now;
      kept = kept_same (g.E.Evaluator.table c.args.evaluator.now);
    }

pub turn-requires-clause-goes_by : goal.turn-requires-clause-goes_by
turn-requires-clause-goes_by g c = subst (GoesBy c.args.program.now) (sym c.loop.invariant.meanings) c.requires.goes_by

pub turn-requires-clause-limit : goal.turn-requires-clause-limit
turn-requires-clause-limit g c = c.requires.limit ∙ ap (λ (m : Meanings). m.limit) (sym c.loop.invariant.meanings)

pub turn-requires-clause-search : goal.turn-requires-clause-search
turn-requires-clause-search g c =
    subst (λ (m : Meanings). IsSearch g.L.Lister.with_context c.args.program.now m c.args.rule.now c.loop.uses.bound.items c.loop.store (g.E.Evaluator.table c.loop.evaluator) (g.L.Lister.asked c.loop.uses.listing) (g.L.Lister.given c.loop.uses.listing) c.loop.uses.standing)
    (sym c.loop.invariant.meanings) c.loop.invariant.search

pub loop-preserved : goal.loop-preserved
loop-preserved g c =
    let i = c.loop.invariant in
    let m = g.E.Evaluator.meanings c.args.evaluator.now in
    let p = c.args.program.now in
    let rule = c.args.rule.now in
    let begun = c.args.uses.now in
    let now = c.loop.uses in
    let then = c.turn.new.uses in
    let told = turn_as p rule now.whole then.whole now.bound.items then.bound.items m (g.E.Evaluator.meanings c.loop.evaluator) i.meanings c.args.limit c.loop.store c.turn.new.store (g.L.Lister.asked now.listing) (g.L.Lister.asked then.listing) (g.L.Lister.given now.listing) (g.L.Lister.given then.listing) now.standing then.standing
    (Ok c.in-Ok-Passed.field-0) c.in-Ok-Passed.ensures.turn in
    record {
      passed = passed_then (program_over p m.hooks) c.args.limit (left_in p m.hooks rule begun.whole begun.bound.items c.args.store.now (g.L.Lister.asked begun.listing) (g.L.Lister.given begun.listing) begun.standing)
          (left_in p m.hooks rule now.whole now.bound.items c.loop.store (g.L.Lister.asked now.listing) (g.L.Lister.given now.listing) now.standing) (left_in p m.hooks rule then.whole then.bound.items c.turn.new.store (g.L.Lister.asked then.listing) (g.L.Lister.given then.listing) then.standing)
          (use_in rule c.turn.new.store (g.L.Lister.given then.listing) then.standing) i.passed
          (subst (λ (t : Turn). IsTurn (program_over p m.hooks) c.args.limit (left_in p m.hooks rule now.whole now.bound.items c.loop.store (g.L.Lister.asked now.listing) (g.L.Lister.given now.listing) now.standing)
          (left_in p m.hooks rule then.whole then.bound.items c.turn.new.store (g.L.Lister.asked then.listing) (g.L.Lister.given then.listing) then.standing) (use_in rule c.turn.new.store (g.L.Lister.given then.listing) then.standing) (Ok t)) c.in-Ok-Passed.field-0-is told);
      search = subst (λ (n : Meanings). IsSearch g.L.Lister.with_context p n rule c.turn.new.uses.bound.items c.turn.new.store (g.E.Evaluator.table c.turn.new.evaluator) (g.L.Lister.asked then.listing) (g.L.Lister.given then.listing) then.standing) i.meanings c.turn.ensures.search;
      asked = c.turn.ensures.asked ∙ i.asked;
      bound = c.turn.ensures.bound ∙ i.bound;
      whole = c.turn.ensures.whole ∙ i.whole;
      signature = c.turn.ensures.signature;
      meanings = c.turn.ensures.meanings ∙ i.meanings;
      fits = c.turn.ensures.fits;
      extends = extension_is_preorder.transitive c.args.store.now c.loop.store c.turn.new.store i.extends c.turn.ensures.extends;
      kept = kept_on (g.E.Evaluator.table c.args.evaluator.now) (g.E.Evaluator.table c.loop.evaluator) (g.E.Evaluator.table c.turn.new.evaluator) i.kept c.turn.ensures.kept;
    }

pub returns-in-Ok-Found-clause-next : goal.returns-in-Ok-Found-clause-next
returns-in-Ok-Found-clause-next g c =
    let i = c.loop.invariant in
    let m = g.E.Evaluator.meanings c.args.evaluator.now in
    let p = c.args.program.now in
    let rule = c.args.rule.now in
    let begun = c.args.uses.now in
    let now = c.loop.uses in
    let then = c.turn.new.uses in
    let told = turn_as p rule now.whole then.whole now.bound.items then.bound.items m (g.E.Evaluator.meanings c.loop.evaluator) i.meanings c.args.limit c.loop.store c.turn.new.store (g.L.Lister.asked now.listing) (g.L.Lister.asked then.listing) (g.L.Lister.given now.listing) (g.L.Lister.given then.listing) now.standing then.standing
    (Ok c.in-Ok-Found.field-0) c.in-Ok-Found.ensures.turn in
    found_then (program_over p m.hooks) c.args.limit (left_in p m.hooks rule begun.whole begun.bound.items c.args.store.now (g.L.Lister.asked begun.listing) (g.L.Lister.given begun.listing) begun.standing)
    (left_in p m.hooks rule now.whole now.bound.items c.loop.store (g.L.Lister.asked now.listing) (g.L.Lister.given now.listing) now.standing) (left_in p m.hooks rule then.whole then.bound.items c.turn.new.store (g.L.Lister.asked then.listing) (g.L.Lister.given then.listing) then.standing)
    (use_in rule c.turn.new.store (g.L.Lister.given then.listing) then.standing) i.passed
    (subst (λ (t : Turn). IsTurn (program_over p m.hooks) c.args.limit (left_in p m.hooks rule now.whole now.bound.items c.loop.store (g.L.Lister.asked now.listing) (g.L.Lister.given now.listing) now.standing)
    (left_in p m.hooks rule then.whole then.bound.items c.turn.new.store (g.L.Lister.asked then.listing) (g.L.Lister.given then.listing) then.standing) (use_in rule c.turn.new.store (g.L.Lister.given then.listing) then.standing) (Ok t)) c.in-Ok-Found.field-0-is told)

pub returns-in-Ok-Over-clause-next : goal.returns-in-Ok-Over-clause-next
returns-in-Ok-Over-clause-next g c =
    let i = c.loop.invariant in
    let m = g.E.Evaluator.meanings c.args.evaluator.now in
    let p = c.args.program.now in
    let rule = c.args.rule.now in
    let begun = c.args.uses.now in
    let now = c.loop.uses in
    let then = c.turn.new.uses in
    let told = turn_as p rule now.whole then.whole now.bound.items then.bound.items m (g.E.Evaluator.meanings c.loop.evaluator) i.meanings c.args.limit c.loop.store c.turn.new.store (g.L.Lister.asked now.listing) (g.L.Lister.asked then.listing) (g.L.Lister.given now.listing) (g.L.Lister.given then.listing) now.standing then.standing
    (Ok c.in-Ok-Over.field-0) c.in-Ok-Over.ensures.turn in
    over_then (program_over p m.hooks) c.args.limit (left_in p m.hooks rule begun.whole begun.bound.items c.args.store.now (g.L.Lister.asked begun.listing) (g.L.Lister.given begun.listing) begun.standing)
    (left_in p m.hooks rule now.whole now.bound.items c.loop.store (g.L.Lister.asked now.listing) (g.L.Lister.given now.listing) now.standing) (left_in p m.hooks rule then.whole then.bound.items c.turn.new.store (g.L.Lister.asked then.listing) (g.L.Lister.given then.listing) then.standing)
    (use_in rule c.turn.new.store (g.L.Lister.given then.listing) then.standing) i.passed
    (subst (λ (t : Turn). IsTurn (program_over p m.hooks) c.args.limit (left_in p m.hooks rule now.whole now.bound.items c.loop.store (g.L.Lister.asked now.listing) (g.L.Lister.given now.listing) now.standing)
    (left_in p m.hooks rule then.whole then.bound.items c.turn.new.store (g.L.Lister.asked then.listing) (g.L.Lister.given then.listing) then.standing) (use_in rule c.turn.new.store (g.L.Lister.given then.listing) then.standing) (Ok t)) c.in-Ok-Over.field-0-is told)

pub returns-in-Err-clause-next : goal.returns-in-Err-clause-next
returns-in-Err-clause-next g c =
    let i = c.loop.invariant in
    let m = g.E.Evaluator.meanings c.args.evaluator.now in
    let p = c.args.program.now in
    let rule = c.args.rule.now in
    let begun = c.args.uses.now in
    let now = c.loop.uses in
    let then = c.turn.new.uses in
    let told = turn_as p rule now.whole then.whole now.bound.items then.bound.items m (g.E.Evaluator.meanings c.loop.evaluator) i.meanings c.args.limit c.loop.store c.turn.new.store (g.L.Lister.asked now.listing) (g.L.Lister.asked then.listing) (g.L.Lister.given now.listing) (g.L.Lister.given then.listing) now.standing then.standing
    (Err c.in-Err.end) c.in-Err.ensures.turn in
    ends_then (program_over p m.hooks) c.args.limit (left_in p m.hooks rule begun.whole begun.bound.items c.args.store.now (g.L.Lister.asked begun.listing) (g.L.Lister.given begun.listing) begun.standing)
    (left_in p m.hooks rule now.whole now.bound.items c.loop.store (g.L.Lister.asked now.listing) (g.L.Lister.given now.listing) now.standing) (left_in p m.hooks rule then.whole then.bound.items c.turn.new.store (g.L.Lister.asked then.listing) (g.L.Lister.given then.listing) then.standing)
    (use_in rule c.turn.new.store (g.L.Lister.given then.listing) then.standing) i.passed c.in-Err.end told

pub returns-clause-next : goal.returns-clause-next
returns-clause-next g c = (c.loop.invariant.passed, tt)

pub returns-in-Ok-Found-clause-search : goal.returns-in-Ok-Found-clause-search
returns-in-Ok-Found-clause-search g c =
    subst (λ (n : Meanings). IsSearch g.L.Lister.with_context c.args.program.now n c.args.rule.now c.turn.new.uses.bound.items c.turn.new.store (g.E.Evaluator.table c.turn.new.evaluator) (g.L.Lister.asked c.turn.new.uses.listing) (g.L.Lister.given c.turn.new.uses.listing) c.turn.new.uses.standing)
    c.loop.invariant.meanings c.turn.ensures.search

pub returns-in-Ok-Found-clause-kept : goal.returns-in-Ok-Found-clause-kept
returns-in-Ok-Found-clause-kept g c = kept_on (g.E.Evaluator.table c.args.evaluator.now) (g.E.Evaluator.table c.loop.evaluator) (g.E.Evaluator.table c.turn.new.evaluator) c.loop.invariant.kept c.turn.ensures.kept

pub returns-in-Ok-Found-clause-extends : goal.returns-in-Ok-Found-clause-extends
returns-in-Ok-Found-clause-extends g c = extension_is_preorder.transitive c.args.store.now c.loop.store c.turn.new.store c.loop.invariant.extends c.turn.ensures.extends

pub returns-in-Ok-Found-clause-asked : goal.returns-in-Ok-Found-clause-asked
returns-in-Ok-Found-clause-asked g c = c.turn.ensures.asked ∙ c.loop.invariant.asked

pub returns-in-Ok-Found-clause-meanings : goal.returns-in-Ok-Found-clause-meanings
returns-in-Ok-Found-clause-meanings g c = c.turn.ensures.meanings ∙ c.loop.invariant.meanings

pub returns-in-Ok-Over-clause-search : goal.returns-in-Ok-Over-clause-search
returns-in-Ok-Over-clause-search g c =
    subst (λ (n : Meanings). IsSearch g.L.Lister.with_context c.args.program.now n c.args.rule.now c.turn.new.uses.bound.items c.turn.new.store (g.E.Evaluator.table c.turn.new.evaluator) (g.L.Lister.asked c.turn.new.uses.listing) (g.L.Lister.given c.turn.new.uses.listing) c.turn.new.uses.standing)
    c.loop.invariant.meanings c.turn.ensures.search

pub returns-in-Ok-Over-clause-kept : goal.returns-in-Ok-Over-clause-kept
returns-in-Ok-Over-clause-kept g c = kept_on (g.E.Evaluator.table c.args.evaluator.now) (g.E.Evaluator.table c.loop.evaluator) (g.E.Evaluator.table c.turn.new.evaluator) c.loop.invariant.kept c.turn.ensures.kept

pub returns-in-Ok-Over-clause-extends : goal.returns-in-Ok-Over-clause-extends
returns-in-Ok-Over-clause-extends g c = extension_is_preorder.transitive c.args.store.now c.loop.store c.turn.new.store c.loop.invariant.extends c.turn.ensures.extends

pub returns-in-Ok-Over-clause-asked : goal.returns-in-Ok-Over-clause-asked
returns-in-Ok-Over-clause-asked g c = c.turn.ensures.asked ∙ c.loop.invariant.asked

pub returns-in-Ok-Over-clause-meanings : goal.returns-in-Ok-Over-clause-meanings
returns-in-Ok-Over-clause-meanings g c = c.turn.ensures.meanings ∙ c.loop.invariant.meanings

pub returns-in-Err-clause-search : goal.returns-in-Err-clause-search
returns-in-Err-clause-search g c =
    subst (λ (n : Meanings). IsSearch g.L.Lister.with_context c.args.program.now n c.args.rule.now c.turn.new.uses.bound.items c.turn.new.store (g.E.Evaluator.table c.turn.new.evaluator) (g.L.Lister.asked c.turn.new.uses.listing) (g.L.Lister.given c.turn.new.uses.listing) c.turn.new.uses.standing)
    c.loop.invariant.meanings c.turn.ensures.search

pub returns-in-Err-clause-kept : goal.returns-in-Err-clause-kept
returns-in-Err-clause-kept g c = kept_on (g.E.Evaluator.table c.args.evaluator.now) (g.E.Evaluator.table c.loop.evaluator) (g.E.Evaluator.table c.turn.new.evaluator) c.loop.invariant.kept c.turn.ensures.kept

pub returns-in-Err-clause-extends : goal.returns-in-Err-clause-extends
returns-in-Err-clause-extends g c = extension_is_preorder.transitive c.args.store.now c.loop.store c.turn.new.store c.loop.invariant.extends c.turn.ensures.extends

pub returns-in-Err-clause-asked : goal.returns-in-Err-clause-asked
returns-in-Err-clause-asked g c = c.turn.ensures.asked ∙ c.loop.invariant.asked

pub returns-in-Err-clause-meanings : goal.returns-in-Err-clause-meanings
returns-in-Err-clause-meanings g c = c.turn.ensures.meanings ∙ c.loop.invariant.meanings

pub returns-in-Ok-Found-clause-bound : goal.returns-in-Ok-Found-clause-bound
returns-in-Ok-Found-clause-bound g c = c.turn.ensures.bound ∙ c.loop.invariant.bound

pub returns-in-Ok-Found-clause-whole : goal.returns-in-Ok-Found-clause-whole
returns-in-Ok-Found-clause-whole g c = c.turn.ensures.whole ∙ c.loop.invariant.whole

pub returns-in-Ok-Over-clause-bound : goal.returns-in-Ok-Over-clause-bound
returns-in-Ok-Over-clause-bound g c = c.turn.ensures.bound ∙ c.loop.invariant.bound

pub returns-in-Ok-Over-clause-whole : goal.returns-in-Ok-Over-clause-whole
returns-in-Ok-Over-clause-whole g c = c.turn.ensures.whole ∙ c.loop.invariant.whole

pub returns-in-Err-clause-bound : goal.returns-in-Err-clause-bound
returns-in-Err-clause-bound g c = c.turn.ensures.bound ∙ c.loop.invariant.bound

pub returns-in-Err-clause-whole : goal.returns-in-Err-clause-whole
returns-in-Err-clause-whole g c = c.turn.ensures.whole ∙ c.loop.invariant.whole

pub turn-requires-clause-usable : goal.turn-requires-clause-usable
turn-requires-clause-usable g c =
    subst (λ (v : Vec (VarId × TermId) Global). IsUsable c.args.program.now.sig (variables_in v.items) c.args.rule.now) (sym c.loop.invariant.bound) c.requires.usable
