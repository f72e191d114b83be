use Rattle.std.proofs.Common.{◌≡◌, ◌-◌, ℕ, zero, suc, List, All, Bool, true, false, Option, Some, None, IsSome, IfSome, Result, Ok, Err, refl, sym, ap, ◌∙◌, subst, arith}
use Rattle.std.specs.Option.{option_map}
use Rattle.mau_terms.specs.Tree.{Tree}
use Rattle.mau_terms.specs.declared.ids.TermId.{TermId}
use Rattle.mau_store.specs.Trees.{trees_at}
use Rattle.mau_store.specs.View.{numbers}
use Rattle.mau_evaluation.specs.Configs.{Todo}
use Rattle.mau_api.specs.Programs.{program_over}
use Rattle.mau_api.specs.Meanings.{Meanings}
use Rattle.mau_api.specs.declared.results.EvalEnd.{EvalEnd}
use Rattle.mau_rules.specs.Runnable.{GoesBy}
use Rattle.mau_stratrun.specs.Yields.{Yield, IsCause}
use Rattle.mau_stratrun.specs.Worlds.{IsNextYield}
use Rattle.mau_leaves.specs.Searches.{IsNextOne}
use Rattle.mau_leaves.specs.InTurn.{IsEvaluated}
use Rattle.mau_leaves.specs.Calls.{left_of_call, body_found, IsCallSearch}
use Rattle.mau_leaves.specs.Cursors.{fixed_of, IsCallCursor, HasTaken, HasFound, world_of_calls}
use Rattle.mau_leaves.specs.declared.bodies.CallBodies.{CallBodies}
use Rattle.mau_leaves.specs.declared.cursor.CallCursor.{CallCursor}
use Rattle.mau_leaves.proofs.Tables.{over_of}
use Rattle.mau_leaves.proofs.Calling.{name_named, name_missing, found_due, found_some, none_found, search_still, search_cause}
use Rattle.mau_leaves.proofs.cursor.find_body.Goals as goal

pub unreachable-requires-in-None-name_of : goal.unreachable-requires-in-None-name_of
unreachable-requires-in-None-name_of g c =
    let m = g.E.Evaluator.meanings c.args.evaluator.now in
    let p = c.args.program.now in
    let leaves = c.args.leaves.now in
    let old = c.args.store.now in
    let before = g.E.Evaluator.table c.args.evaluator.now in
    let s = c.args.cursor.now in
    name_missing g.L.Lister.asked g.L.Lister.given g.L.Lister.is_for g.L.Lister.with_context p m leaves old before s c.requires.yields.0 c.requires.yields.1 c.requires.yields.2 c.requires.yields.3 (sym c.name_of.ensures ∙ ap (option_map (λ x. x.now)) c.in-None-name_of.is)

pub next_body-requires-clause-values : goal.next_body-requires-clause-values
next_body-requires-clause-values g c =
    let m = g.E.Evaluator.meanings c.args.evaluator.now in
    let p = c.args.program.now in
    let leaves = c.args.leaves.now in
    let old = c.args.store.now in
    let before = g.E.Evaluator.table c.args.evaluator.now in
    let s = c.args.cursor.now in
    subst (λ (ids : List TermId). All (IsEvaluated p.sig old before) ids) (sym c.deref.ensures.value) c.requires.yields.3.evaluated

pub next_body-requires-clause-search : goal.next_body-requires-clause-search
next_body-requires-clause-search g c =
    let m = g.E.Evaluator.meanings c.args.evaluator.now in
    let p = c.args.program.now in
    let leaves = c.args.leaves.now in
    let old = c.args.store.now in
    let before = g.E.Evaluator.table c.args.evaluator.now in
    let s = c.args.cursor.now in
    subst (λ (ids : List TermId). IsCallSearch g.L.Lister.asked g.L.Lister.given g.L.Lister.is_for g.L.Lister.with_context p m old before ids c.in-Some.bodies) (sym c.deref.ensures.value)
    (subst (λ (o : Option (CallBodies _)). IfSome o (IsCallSearch g.L.Lister.asked g.L.Lister.given g.L.Lister.is_for g.L.Lister.with_context p m old before s.values.items)) c.in-Some.is c.requires.yields.3.search)

pub returns-in-Ok-true-clause-found : goal.returns-in-Ok-true-clause-found
returns-in-Ok-true-clause-found g c = λ d t ys h.
    let m = g.E.Evaluator.meanings c.args.evaluator.now in
    let p = c.args.program.now in
    let leaves = c.args.leaves.now in
    let old = c.args.store.now in
    let before = g.E.Evaluator.table c.args.evaluator.now in
    let s = c.args.cursor.now in
    let new = c.next_body.new.store in
    let after = g.E.Evaluator.table c.next_body.new.evaluator in
    let e = c.next_body.ensures in
    let over = over_of p m (g.E.Evaluator.meanings c.next_body.new.evaluator) e.meanings c.requires.goes_by.program new after (g.met.E.Evaluator.derived c.next_body.new.evaluator new e.fits) in
    let b = c.in-Some.bodies in
    let b' = c.next_body.new.bodies in
    let name = c.in-Some-name_of.name.now in
    let same = name_named g.L.Lister.asked g.L.Lister.given g.L.Lister.is_for g.L.Lister.with_context p m leaves old before s d t ys h name (sym c.name_of.ensures ∙ ap (option_map (λ x. x.now)) c.in-Some-name_of.is) in
    let left = left_of_call g.L.Lister.asked g.L.Lister.given p m.hooks in
    let vs = trees_at old (numbers s.values.items) in
    let one = λ (k : ℕ). subst (λ n. IsNextOne (program_over p m.hooks) n (left k name vs old b) (left k name vs new b') (body_found p k new b') (Ok true)) c.requires.limit
    (subst (λ t. IsNextOne (program_over p m.hooks) c.args.limit (left k name vs old b) (left k name vs new b') (body_found p k new b') (Ok t)) c.in-Ok-true.field-0-test
    (subst (λ (ids : List TermId). IsNextOne (program_over p m.hooks) c.args.limit (left k name (trees_at old (numbers ids)) old b) (left k name (trees_at old (numbers ids)) new b') (body_found p k new b') (Ok c.in-Ok-true.field-0)) c.deref.ensures.value
    (c.in-Ok-true.ensures.next k))) in
    found_due g.L.Lister.asked g.L.Lister.given g.L.Lister.is_for g.L.Lister.with_context p m leaves c.requires.goes_by old new before after e.extends e.kept over s d t ys h b c.in-Some.is c.requires.idle name same b' (subst (λ (ids : List TermId). IsCallSearch g.L.Lister.asked g.L.Lister.given g.L.Lister.is_for g.L.Lister.with_context p m new after ids b') c.deref.ensures.value e.search) one

pub returns-in-Ok-true-clause-due : goal.returns-in-Ok-true-clause-due
returns-in-Ok-true-clause-due g c = λ z.
    let m = g.E.Evaluator.meanings c.args.evaluator.now in
    let p = c.args.program.now in
    let leaves = c.args.leaves.now in
    let old = c.args.store.now in
    let before = g.E.Evaluator.table c.args.evaluator.now in
    let s = c.args.cursor.now in
    let d = c.requires.yields.0 in
    let t = c.requires.yields.1 in
    let ys = c.requires.yields.2 in
    let h = c.requires.yields.3 in
    let new = c.next_body.new.store in
    let after = g.E.Evaluator.table c.next_body.new.evaluator in
    let e = c.next_body.ensures in
    let over = over_of p m (g.E.Evaluator.meanings c.next_body.new.evaluator) e.meanings c.requires.goes_by.program new after (g.met.E.Evaluator.derived c.next_body.new.evaluator new e.fits) in
    let b = c.in-Some.bodies in
    let b' = c.next_body.new.bodies in
    let name = c.in-Some-name_of.name.now in
    let same = name_named g.L.Lister.asked g.L.Lister.given g.L.Lister.is_for g.L.Lister.with_context p m leaves old before s d t ys h name (sym c.name_of.ensures ∙ ap (option_map (λ x. x.now)) c.in-Some-name_of.is) in
    let left = left_of_call g.L.Lister.asked g.L.Lister.given p m.hooks in
    let vs = trees_at old (numbers s.values.items) in
    let one = λ (k : ℕ). subst (λ n. IsNextOne (program_over p m.hooks) n (left k name vs old b) (left k name vs new b') (body_found p k new b') (Ok true)) c.requires.limit
    (subst (λ t. IsNextOne (program_over p m.hooks) c.args.limit (left k name vs old b) (left k name vs new b') (body_found p k new b') (Ok t)) c.in-Ok-true.field-0-test
    (subst (λ (ids : List TermId). IsNextOne (program_over p m.hooks) c.args.limit (left k name (trees_at old (numbers ids)) old b) (left k name (trees_at old (numbers ids)) new b') (body_found p k new b') (Ok c.in-Ok-true.field-0)) c.deref.ensures.value
    (c.in-Ok-true.ensures.next k))) in
    (refl, found_some g.L.Lister.asked g.L.Lister.given g.L.Lister.is_for g.L.Lister.with_context p m leaves c.requires.goes_by old new before after e.extends e.kept over s d t ys h b c.in-Some.is c.requires.idle name same b' (subst (λ (ids : List TermId). IsCallSearch g.L.Lister.asked g.L.Lister.given g.L.Lister.is_for g.L.Lister.with_context p m new after ids b') c.deref.ensures.value e.search) 0 (one 0))

pub returns-in-Ok-false-clause-found : goal.returns-in-Ok-false-clause-found
returns-in-Ok-false-clause-found g c = λ d t ys h.
    let m = g.E.Evaluator.meanings c.args.evaluator.now in
    let p = c.args.program.now in
    let leaves = c.args.leaves.now in
    let old = c.args.store.now in
    let before = g.E.Evaluator.table c.args.evaluator.now in
    let s = c.args.cursor.now in
    let new = c.next_body.new.store in
    let after = g.E.Evaluator.table c.next_body.new.evaluator in
    let e = c.next_body.ensures in
    let over = over_of p m (g.E.Evaluator.meanings c.next_body.new.evaluator) e.meanings c.requires.goes_by.program new after (g.met.E.Evaluator.derived c.next_body.new.evaluator new e.fits) in
    let b = c.in-Some.bodies in
    let b' = c.next_body.new.bodies in
    let name = c.in-Some-name_of.name.now in
    let same = name_named g.L.Lister.asked g.L.Lister.given g.L.Lister.is_for g.L.Lister.with_context p m leaves old before s d t ys h name (sym c.name_of.ensures ∙ ap (option_map (λ x. x.now)) c.in-Some-name_of.is) in
    let left = left_of_call g.L.Lister.asked g.L.Lister.given p m.hooks in
    let vs = trees_at old (numbers s.values.items) in
    let one = λ (k : ℕ). subst (λ n. IsNextOne (program_over p m.hooks) n (left k name vs old b) (left k name vs new b') (body_found p k new b') (Ok false)) c.requires.limit
    (subst (λ t. IsNextOne (program_over p m.hooks) c.args.limit (left k name vs old b) (left k name vs new b') (body_found p k new b') (Ok t)) c.in-Ok-false.field-0-test
    (subst (λ (ids : List TermId). IsNextOne (program_over p m.hooks) c.args.limit (left k name (trees_at old (numbers ids)) old b) (left k name (trees_at old (numbers ids)) new b') (body_found p k new b') (Ok c.in-Ok-false.field-0)) c.deref.ensures.value
    (c.in-Ok-false.ensures.next k))) in
    λ k more. none_found g.L.Lister.asked g.L.Lister.given g.L.Lister.is_for g.L.Lister.with_context p m leaves c.requires.goes_by old new before after e.extends e.kept over s d t ys h b c.in-Some.is c.requires.idle name same b' (subst (λ (ids : List TermId). IsCallSearch g.L.Lister.asked g.L.Lister.given g.L.Lister.is_for g.L.Lister.with_context p m new after ids b') c.deref.ensures.value e.search) k more (one k)

pub returns-in-Err-clause-found : goal.returns-in-Err-clause-found
returns-in-Err-clause-found g c = λ d t ys h.
    let m = g.E.Evaluator.meanings c.args.evaluator.now in
    let p = c.args.program.now in
    let leaves = c.args.leaves.now in
    let old = c.args.store.now in
    let before = g.E.Evaluator.table c.args.evaluator.now in
    let s = c.args.cursor.now in
    let new = c.next_body.new.store in
    let after = g.E.Evaluator.table c.next_body.new.evaluator in
    let e = c.next_body.ensures in
    let over = over_of p m (g.E.Evaluator.meanings c.next_body.new.evaluator) e.meanings c.requires.goes_by.program new after (g.met.E.Evaluator.derived c.next_body.new.evaluator new e.fits) in
    let b = c.in-Some.bodies in
    let b' = c.next_body.new.bodies in
    let name = c.in-Some-name_of.name.now in
    let same = name_named g.L.Lister.asked g.L.Lister.given g.L.Lister.is_for g.L.Lister.with_context p m leaves old before s d t ys h name (sym c.name_of.ensures ∙ ap (option_map (λ x. x.now)) c.in-Some-name_of.is) in
    let left = left_of_call g.L.Lister.asked g.L.Lister.given p m.hooks in
    let vs = trees_at old (numbers s.values.items) in
    let failed : Result Bool EvalEnd = Err c.in-Err.end in
    let one = λ (k : ℕ). subst (λ n. IsNextOne (program_over p m.hooks) n (left k name vs old b) (left k name vs new b') (body_found p k new b') failed) c.requires.limit
    (subst (λ (ids : List TermId). IsNextOne (program_over p m.hooks) c.args.limit (left k name (trees_at old (numbers ids)) old b) (left k name (trees_at old (numbers ids)) new b') (body_found p k new b') failed) c.deref.ensures.value (c.in-Err.ensures.next k)) in
    (search_still g.L.Lister.asked g.L.Lister.given g.L.Lister.is_for g.L.Lister.with_context p m leaves c.requires.goes_by old new before after e.extends e.kept over s d t ys h b c.in-Some.is c.requires.idle name same b' (subst (λ (ids : List TermId). IsCallSearch g.L.Lister.asked g.L.Lister.given g.L.Lister.is_for g.L.Lister.with_context p m new after ids b') c.deref.ensures.value e.search) c.in-Err.end one, search_cause g.L.Lister.asked g.L.Lister.given g.L.Lister.is_for g.L.Lister.with_context p m leaves c.requires.goes_by old new before after e.extends e.kept over s d t ys h b c.in-Some.is c.requires.idle name same b' (subst (λ (ids : List TermId). IsCallSearch g.L.Lister.asked g.L.Lister.given g.L.Lister.is_for g.L.Lister.with_context p m new after ids b') c.deref.ensures.value e.search) c.in-Err.end one)
