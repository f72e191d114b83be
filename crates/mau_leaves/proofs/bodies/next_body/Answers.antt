use Rattle.std.proofs.Common.{Result, Ok, Err, refl, sym, ap, ◌∙◌, subst}
use Rattle.mau_store.specs.Trees.{trees_at}
use Rattle.mau_store.specs.View.{numbers}
use Rattle.mau_store.proofs.Growth.{extension_is_preorder}
use Rattle.mau_sorts.proofs.Settling.{kept_on, kept_same}
use Rattle.mau_api.specs.Meanings.{Meanings}
use Rattle.mau_api.specs.Programs.{program_over}
use Rattle.mau_api.specs.declared.results.EvalEnd.{EvalEnd}
use Rattle.mau_rules.specs.Runnable.{GoesBy}
use Rattle.mau_leaves.specs.Searches.{IsTurn}
use Rattle.mau_leaves.specs.Calls.{left_of_call, body_found, IsCallSearch}
use Rattle.mau_leaves.specs.declared.turn.Turn.{Turn}
use Rattle.mau_leaves.proofs.InTurns.{all_evaluated, values_kept}
use Rattle.mau_leaves.proofs.Steps.{found_then, passed_then, over_then, ends_then, none_passed}
use Rattle.mau_leaves.proofs.bodies.next_body.Goals as goal

pub loop-init : goal.loop-init
loop-init g c =
    let m = g.E.Evaluator.meanings c.args.evaluator.now in
    let p = c.args.program.now in
    record {
      passed = λ k. none_passed (program_over p m.hooks) (left_of_call g.L.Lister.asked g.L.Lister.given p m.hooks k c.args.name.now (trees_at c.args.store.now (numbers c.args.values.now)) c.args.store.now c.args.bodies.now);
      search = c.requires.search;
      values = c.requires.values;
      same = refl;
      meanings = refl;
      fits = c.requires.fits;
      extends = extension_is_preorder.reflexive c.args.store.now;
      kept = kept_same (g.E.Evaluator.table c.args.evaluator.now);
    }

pub turn_on-requires-clause-goes_by : goal.turn_on-requires-clause-goes_by
turn_on-requires-clause-goes_by g c = subst (GoesBy c.args.program.now) (sym c.loop.invariant.meanings) c.requires.goes_by

pub turn_on-requires-clause-limit : goal.turn_on-requires-clause-limit
turn_on-requires-clause-limit g c = c.requires.limit ∙ ap (λ (m : Meanings). m.limit) (sym c.loop.invariant.meanings)

pub turn_on-requires-clause-values : goal.turn_on-requires-clause-values
turn_on-requires-clause-values g c = c.loop.invariant.values

pub turn_on-requires-clause-search : goal.turn_on-requires-clause-search
turn_on-requires-clause-search g c =
    let i = c.loop.invariant in
    subst (λ (z : Meanings). IsCallSearch g.L.Lister.asked g.L.Lister.given g.L.Lister.is_for g.L.Lister.with_context c.args.program.now z c.loop.store (g.E.Evaluator.table c.loop.evaluator) c.args.values.now c.loop.bodies) (sym i.meanings) i.search

pub loop-preserved : goal.loop-preserved
loop-preserved g c =
    let i = c.loop.invariant in
    let m = g.E.Evaluator.meanings c.args.evaluator.now in
    let p = c.args.program.now in
    let n = c.args.name.now in
    let vs = trees_at c.args.store.now (numbers c.args.values.now) in
    let left = left_of_call g.L.Lister.asked g.L.Lister.given p m.hooks in
    let new = c.turn_on.new.store in
    let after = g.E.Evaluator.table c.turn_on.new.evaluator in
    let before = g.E.Evaluator.table c.loop.evaluator in
    record {
      passed = λ k.
          let told = subst (λ ws. IsTurn (program_over p m.hooks) c.args.limit (left k n ws c.loop.store c.loop.bodies) (left k n ws new c.turn_on.new.bodies) (body_found p k new c.turn_on.new.bodies) (Ok c.in-Ok-Passed.field-0)) i.same
          (subst (λ (z : Meanings). IsTurn (program_over p z.hooks) c.args.limit (left_of_call g.L.Lister.asked g.L.Lister.given p z.hooks k n (trees_at c.loop.store (numbers c.args.values.now)) c.loop.store c.loop.bodies)
          (left_of_call g.L.Lister.asked g.L.Lister.given p z.hooks k n (trees_at c.loop.store (numbers c.args.values.now)) new c.turn_on.new.bodies) (body_found p k new c.turn_on.new.bodies) (Ok c.in-Ok-Passed.field-0)) i.meanings (c.in-Ok-Passed.ensures.turn k)) in
          passed_then (program_over p m.hooks) c.args.limit (left k n vs c.args.store.now c.args.bodies.now) (left k n vs c.loop.store c.loop.bodies) (left k n vs new c.turn_on.new.bodies) (body_found p k new c.turn_on.new.bodies) (i.passed k)
          (subst (λ (t : Turn). IsTurn (program_over p m.hooks) c.args.limit (left k n vs c.loop.store c.loop.bodies) (left k n vs new c.turn_on.new.bodies) (body_found p k new c.turn_on.new.bodies) (Ok t)) c.in-Ok-Passed.field-0-is told);
      search = subst (λ (z : Meanings). IsCallSearch g.L.Lister.asked g.L.Lister.given g.L.Lister.is_for g.L.Lister.with_context p z new after c.args.values.now c.turn_on.new.bodies) i.meanings c.turn_on.ensures.search;
      values = all_evaluated p c.loop.store new before after c.turn_on.ensures.extends c.turn_on.ensures.kept c.args.values.now i.values;
      same = values_kept p c.loop.store new before after c.turn_on.ensures.extends c.turn_on.ensures.kept c.args.values.now i.values ∙ i.same;
      meanings = c.turn_on.ensures.meanings ∙ i.meanings;
      fits = c.turn_on.ensures.fits;
      extends = extension_is_preorder.transitive c.args.store.now c.loop.store new i.extends c.turn_on.ensures.extends;
      kept = kept_on (g.E.Evaluator.table c.args.evaluator.now) before after i.kept c.turn_on.ensures.kept;
    }

pub returns-in-Ok-Found-clause-next : goal.returns-in-Ok-Found-clause-next
returns-in-Ok-Found-clause-next g c = λ k.
    let i = c.loop.invariant in
    let m = g.E.Evaluator.meanings c.args.evaluator.now in
    let p = c.args.program.now in
    let n = c.args.name.now in
    let vs = trees_at c.args.store.now (numbers c.args.values.now) in
    let left = left_of_call g.L.Lister.asked g.L.Lister.given p m.hooks in
    let new = c.turn_on.new.store in
    let told = subst (λ ws. IsTurn (program_over p m.hooks) c.args.limit (left k n ws c.loop.store c.loop.bodies) (left k n ws new c.turn_on.new.bodies) (body_found p k new c.turn_on.new.bodies) (Ok c.in-Ok-Found.field-0)) i.same
    (subst (λ (z : Meanings). IsTurn (program_over p z.hooks) c.args.limit (left_of_call g.L.Lister.asked g.L.Lister.given p z.hooks k n (trees_at c.loop.store (numbers c.args.values.now)) c.loop.store c.loop.bodies)
    (left_of_call g.L.Lister.asked g.L.Lister.given p z.hooks k n (trees_at c.loop.store (numbers c.args.values.now)) new c.turn_on.new.bodies) (body_found p k new c.turn_on.new.bodies) (Ok c.in-Ok-Found.field-0)) i.meanings (c.in-Ok-Found.ensures.turn k)) in
    found_then (program_over p m.hooks) c.args.limit (left k n vs c.args.store.now c.args.bodies.now) (left k n vs c.loop.store c.loop.bodies) (left k n vs new c.turn_on.new.bodies) (body_found p k new c.turn_on.new.bodies) (i.passed k)
    (subst (λ (t : Turn). IsTurn (program_over p m.hooks) c.args.limit (left k n vs c.loop.store c.loop.bodies) (left k n vs new c.turn_on.new.bodies) (body_found p k new c.turn_on.new.bodies) (Ok t)) c.in-Ok-Found.field-0-is told)

pub returns-in-Ok-Over-clause-next : goal.returns-in-Ok-Over-clause-next
returns-in-Ok-Over-clause-next g c = λ k.
    let i = c.loop.invariant in
    let m = g.E.Evaluator.meanings c.args.evaluator.now in
    let p = c.args.program.now in
    let n = c.args.name.now in
    let vs = trees_at c.args.store.now (numbers c.args.values.now) in
    let left = left_of_call g.L.Lister.asked g.L.Lister.given p m.hooks in
    let new = c.turn_on.new.store in
    let told = subst (λ ws. IsTurn (program_over p m.hooks) c.args.limit (left k n ws c.loop.store c.loop.bodies) (left k n ws new c.turn_on.new.bodies) (body_found p k new c.turn_on.new.bodies) (Ok c.in-Ok-Over.field-0)) i.same
    (subst (λ (z : Meanings). IsTurn (program_over p z.hooks) c.args.limit (left_of_call g.L.Lister.asked g.L.Lister.given p z.hooks k n (trees_at c.loop.store (numbers c.args.values.now)) c.loop.store c.loop.bodies)
    (left_of_call g.L.Lister.asked g.L.Lister.given p z.hooks k n (trees_at c.loop.store (numbers c.args.values.now)) new c.turn_on.new.bodies) (body_found p k new c.turn_on.new.bodies) (Ok c.in-Ok-Over.field-0)) i.meanings (c.in-Ok-Over.ensures.turn k)) in
    over_then (program_over p m.hooks) c.args.limit (left k n vs c.args.store.now c.args.bodies.now) (left k n vs c.loop.store c.loop.bodies) (left k n vs new c.turn_on.new.bodies) (body_found p k new c.turn_on.new.bodies) (i.passed k)
    (subst (λ (t : Turn). IsTurn (program_over p m.hooks) c.args.limit (left k n vs c.loop.store c.loop.bodies) (left k n vs new c.turn_on.new.bodies) (body_found p k new c.turn_on.new.bodies) (Ok t)) c.in-Ok-Over.field-0-is told)

pub returns-in-Err-clause-next : goal.returns-in-Err-clause-next
returns-in-Err-clause-next g c = λ k.
    let i = c.loop.invariant in
    let m = g.E.Evaluator.meanings c.args.evaluator.now in
    let p = c.args.program.now in
    let n = c.args.name.now in
    let vs = trees_at c.args.store.now (numbers c.args.values.now) in
    let left = left_of_call g.L.Lister.asked g.L.Lister.given p m.hooks in
    let new = c.turn_on.new.store in
    let failed : Result Turn EvalEnd = Err c.in-Err.end in
    let told = subst (λ ws. IsTurn (program_over p m.hooks) c.args.limit (left k n ws c.loop.store c.loop.bodies) (left k n ws new c.turn_on.new.bodies) (body_found p k new c.turn_on.new.bodies) failed) i.same
    (subst (λ (z : Meanings). IsTurn (program_over p z.hooks) c.args.limit (left_of_call g.L.Lister.asked g.L.Lister.given p z.hooks k n (trees_at c.loop.store (numbers c.args.values.now)) c.loop.store c.loop.bodies)
    (left_of_call g.L.Lister.asked g.L.Lister.given p z.hooks k n (trees_at c.loop.store (numbers c.args.values.now)) new c.turn_on.new.bodies) (body_found p k new c.turn_on.new.bodies) failed) i.meanings (c.in-Err.ensures.turn k)) in
    ends_then (program_over p m.hooks) c.args.limit (left k n vs c.args.store.now c.args.bodies.now) (left k n vs c.loop.store c.loop.bodies) (left k n vs new c.turn_on.new.bodies) (body_found p k new c.turn_on.new.bodies) (i.passed k) c.in-Err.end told

pub returns-clause-next : goal.returns-clause-next
returns-clause-next g c = λ k. (c.loop.invariant.passed k, tt)

pub returns-in-Ok-Found-clause-search : goal.returns-in-Ok-Found-clause-search
returns-in-Ok-Found-clause-search g c =
    subst (λ (z : Meanings). IsCallSearch g.L.Lister.asked g.L.Lister.given g.L.Lister.is_for g.L.Lister.with_context c.args.program.now z c.turn_on.new.store (g.E.Evaluator.table c.turn_on.new.evaluator) c.args.values.now c.turn_on.new.bodies)
    c.loop.invariant.meanings c.turn_on.ensures.search

pub returns-in-Ok-Found-clause-kept : goal.returns-in-Ok-Found-clause-kept
returns-in-Ok-Found-clause-kept g c = kept_on (g.E.Evaluator.table c.args.evaluator.now) (g.E.Evaluator.table c.loop.evaluator) (g.E.Evaluator.table c.turn_on.new.evaluator) c.loop.invariant.kept c.turn_on.ensures.kept

pub returns-in-Ok-Found-clause-extends : goal.returns-in-Ok-Found-clause-extends
returns-in-Ok-Found-clause-extends g c = extension_is_preorder.transitive c.args.store.now c.loop.store c.turn_on.new.store c.loop.invariant.extends c.turn_on.ensures.extends

pub returns-in-Ok-Found-clause-meanings : goal.returns-in-Ok-Found-clause-meanings
returns-in-Ok-Found-clause-meanings g c = c.turn_on.ensures.meanings ∙ c.loop.invariant.meanings

pub returns-in-Ok-Over-clause-search : goal.returns-in-Ok-Over-clause-search
returns-in-Ok-Over-clause-search g c =
    subst (λ (z : Meanings). IsCallSearch g.L.Lister.asked g.L.Lister.given g.L.Lister.is_for g.L.Lister.with_context c.args.program.now z c.turn_on.new.store (g.E.Evaluator.table c.turn_on.new.evaluator) c.args.values.now c.turn_on.new.bodies)
    c.loop.invariant.meanings c.turn_on.ensures.search

pub returns-in-Ok-Over-clause-kept : goal.returns-in-Ok-Over-clause-kept
returns-in-Ok-Over-clause-kept g c = kept_on (g.E.Evaluator.table c.args.evaluator.now) (g.E.Evaluator.table c.loop.evaluator) (g.E.Evaluator.table c.turn_on.new.evaluator) c.loop.invariant.kept c.turn_on.ensures.kept

pub returns-in-Ok-Over-clause-extends : goal.returns-in-Ok-Over-clause-extends
returns-in-Ok-Over-clause-extends g c = extension_is_preorder.transitive c.args.store.now c.loop.store c.turn_on.new.store c.loop.invariant.extends c.turn_on.ensures.extends

pub returns-in-Ok-Over-clause-meanings : goal.returns-in-Ok-Over-clause-meanings
returns-in-Ok-Over-clause-meanings g c = c.turn_on.ensures.meanings ∙ c.loop.invariant.meanings

pub returns-in-Err-clause-search : goal.returns-in-Err-clause-search
returns-in-Err-clause-search g c =
    subst (λ (z : Meanings). IsCallSearch g.L.Lister.asked g.L.Lister.given g.L.Lister.is_for g.L.Lister.with_context c.args.program.now z c.turn_on.new.store (g.E.Evaluator.table c.turn_on.new.evaluator) c.args.values.now c.turn_on.new.bodies)
    c.loop.invariant.meanings c.turn_on.ensures.search

pub returns-in-Err-clause-kept : goal.returns-in-Err-clause-kept
returns-in-Err-clause-kept g c = kept_on (g.E.Evaluator.table c.args.evaluator.now) (g.E.Evaluator.table c.loop.evaluator) (g.E.Evaluator.table c.turn_on.new.evaluator) c.loop.invariant.kept c.turn_on.ensures.kept

pub returns-in-Err-clause-extends : goal.returns-in-Err-clause-extends
returns-in-Err-clause-extends g c = extension_is_preorder.transitive c.args.store.now c.loop.store c.turn_on.new.store c.loop.invariant.extends c.turn_on.ensures.extends

pub returns-in-Err-clause-meanings : goal.returns-in-Err-clause-meanings
returns-in-Err-clause-meanings g c = c.turn_on.ensures.meanings ∙ c.loop.invariant.meanings
