use Rattle.std.proofs.Common.{◌≡◌, ◌-◌, ℕ, zero, suc, List, Bool, true, false, Option, Some, None, IsSome, Result, Ok, Err, refl, sym, ap, ◌∙◌, subst, arith}
use Rattle.std.specs.Option.{option_map}
use Rattle.mau_terms.specs.Tree.{Tree}
use Rattle.mau_terms.specs.declared.ids.TermId.{TermId}
use Rattle.mau_store.specs.Trees.{trees_at}
use Rattle.mau_store.specs.View.{numbers}
use Rattle.mau_sorts.proofs.Settling.{kept_on}
use Rattle.mau_evaluation.specs.Configs.{Todo}
use Rattle.mau_api.specs.Programs.{program_over}
use Rattle.mau_api.specs.Meanings.{Meanings}
use Rattle.mau_api.specs.declared.results.EvalEnd.{EvalEnd}
use Rattle.mau_rules.specs.Runnable.{GoesBy}
use Rattle.mau_stratrun.specs.Yields.{Yield, IsCause}
use Rattle.mau_stratrun.specs.Worlds.{IsNextYield}
use Rattle.mau_leaves.specs.Searches.{IsNextOne}
use Rattle.mau_leaves.specs.Calls.{left_of_call, body_found, IsCallSearch}
use Rattle.mau_leaves.specs.Cursors.{fixed_of, IsCallCursor, HasTaken, HasFound, world_of_calls}
use Rattle.mau_leaves.specs.declared.bodies.CallBodies.{CallBodies}
use Rattle.mau_leaves.specs.declared.cursor.CallCursor.{CallCursor}
use Rattle.mau_leaves.proofs.Tables.{over_of}
use Rattle.mau_leaves.proofs.Calling.{body_yields}
use Rattle.mau_leaves.proofs.cursor.next_of_call.Goals as goal

suc_less : (n : ℕ) → (n ≡ 0 → ⊥) → n ≡ suc (n - 1)
suc_less zero h = absurd (h refl)
suc_less (suc n) h = omega arith

pub returns-then-cursor-clause-next : goal.returns-then-cursor-clause-next
returns-then-cursor-clause-next g c = λ d t ys h.
    let m = g.E.Evaluator.meanings c.args.evaluator.now in
    let p = c.args.program.now in
    let leaves = c.args.leaves.now in
    let old = c.args.store.now in
    let before = g.E.Evaluator.table c.args.evaluator.now in
    let s = c.args.cursor.now in
    let k = s.calls - 1 in
    let more : d.calls ≡ suc k = h.calls ∙ suc_less s.calls c.if-cursor-eq0.false in
    body_yields g.L.Lister.asked g.L.Lister.given g.L.Lister.is_for g.L.Lister.with_context p m leaves old before s d t ys h k more c.if-cursor.true c.give_body.new.cursor c.give_body.result c.give_body.ensures.given

pub returns-in-Err-clause-next : goal.returns-in-Err-clause-next
returns-in-Err-clause-next g c = λ d t ys h.
    let m = g.E.Evaluator.meanings c.args.evaluator.now in
    let p = c.args.program.now in
    let leaves = c.args.leaves.now in
    let old = c.args.store.now in
    let before = g.E.Evaluator.table c.args.evaluator.now in
    let s = c.args.cursor.now in
    let k = s.calls - 1 in
    let more : d.calls ≡ suc k = h.calls ∙ suc_less s.calls c.if-cursor-eq0.false in
    let z = c.in-Err.ensures.taken d t ys h in (z.0, subst (IsCause (fixed_of p m leaves) d t ys) (sym c.end_of.ensures) (z.1 k more))

pub find_body-requires-clause-goes_by : goal.find_body-requires-clause-goes_by
find_body-requires-clause-goes_by g c =
    subst (GoesBy c.args.program.now) (sym c.have_values.ensures.meanings) c.requires.goes_by

pub find_body-requires-clause-limit : goal.find_body-requires-clause-limit
find_body-requires-clause-limit g c =
    c.requires.limit ∙ ap (λ (m : Meanings). m.limit) (sym c.have_values.ensures.meanings)

pub find_body-requires-clause-yields : goal.find_body-requires-clause-yields
find_body-requires-clause-yields g c =
    let m = g.E.Evaluator.meanings c.args.evaluator.now in
    let p = c.args.program.now in
    let leaves = c.args.leaves.now in
    let old = c.args.store.now in
    let before = g.E.Evaluator.table c.args.evaluator.now in
    let s = c.args.cursor.now in
    let mid = c.have_values.new.store in
    let between = g.E.Evaluator.table c.have_values.new.evaluator in
    let m' = g.E.Evaluator.meanings c.have_values.new.evaluator in
    let same : m' ≡ m = c.have_values.ensures.meanings in
    let s' = c.have_values.new.cursor in
    let d = c.requires.yields.0 in
    let t = c.requires.yields.1 in
    let ys = c.requires.yields.2 in
    let h = c.requires.yields.3 in
    (d, t, ys, subst (λ (z : Meanings). IsCallCursor g.L.Lister.asked g.L.Lister.given g.L.Lister.is_for g.L.Lister.with_context p z leaves mid between s' d t ys) (sym same) (c.in-Ok.ensures.taken d t ys h))

pub returns-in-Ok-false-clause-next : goal.returns-in-Ok-false-clause-next
returns-in-Ok-false-clause-next g c = λ d t ys h.
    let m = g.E.Evaluator.meanings c.args.evaluator.now in
    let p = c.args.program.now in
    let leaves = c.args.leaves.now in
    let old = c.args.store.now in
    let before = g.E.Evaluator.table c.args.evaluator.now in
    let s = c.args.cursor.now in
    let k = s.calls - 1 in
    let more : d.calls ≡ suc k = h.calls ∙ suc_less s.calls c.if-cursor-eq0.false in
    let mid = c.have_values.new.store in
    let between = g.E.Evaluator.table c.have_values.new.evaluator in
    let m' = g.E.Evaluator.meanings c.have_values.new.evaluator in
    let same : m' ≡ m = c.have_values.ensures.meanings in
    let s' = c.have_values.new.cursor in
    let new = c.find_body.new.store in
    let after = g.E.Evaluator.table c.find_body.new.evaluator in
    let s'' = c.find_body.new.cursor in
    let found = subst (λ (z : Meanings). (d : Todo) (t : Tree) (ys : List Yield) → IsCallCursor g.L.Lister.asked g.L.Lister.given g.L.Lister.is_for g.L.Lister.with_context p z leaves mid between s' d t ys → HasFound g.L.Lister.asked g.L.Lister.given g.L.Lister.is_for g.L.Lister.with_context p z leaves new after s'' d t ys (Ok false)) same
    (subst (λ b. (d : Todo) (t : Tree) (ys : List Yield) → IsCallCursor g.L.Lister.asked g.L.Lister.given g.L.Lister.is_for g.L.Lister.with_context p m' leaves mid between s' d t ys → HasFound g.L.Lister.asked g.L.Lister.given g.L.Lister.is_for g.L.Lister.with_context p m' leaves new after s'' d t ys (Ok b)) c.in-Ok-false.field-0-test c.in-Ok-false.ensures.found) d t ys (c.in-Ok.ensures.taken d t ys h) in
    found k more

pub returns-in-Err-find_body-clause-next : goal.returns-in-Err-find_body-clause-next
returns-in-Err-find_body-clause-next g c = λ d t ys h.
    let m = g.E.Evaluator.meanings c.args.evaluator.now in
    let p = c.args.program.now in
    let leaves = c.args.leaves.now in
    let old = c.args.store.now in
    let before = g.E.Evaluator.table c.args.evaluator.now in
    let s = c.args.cursor.now in
    let k = s.calls - 1 in
    let more : d.calls ≡ suc k = h.calls ∙ suc_less s.calls c.if-cursor-eq0.false in
    let mid = c.have_values.new.store in
    let between = g.E.Evaluator.table c.have_values.new.evaluator in
    let m' = g.E.Evaluator.meanings c.have_values.new.evaluator in
    let same : m' ≡ m = c.have_values.ensures.meanings in
    let s' = c.have_values.new.cursor in
    let new = c.find_body.new.store in
    let after = g.E.Evaluator.table c.find_body.new.evaluator in
    let s'' = c.find_body.new.cursor in
    let found = subst (λ (z : Meanings). (d : Todo) (t : Tree) (ys : List Yield) → IsCallCursor g.L.Lister.asked g.L.Lister.given g.L.Lister.is_for g.L.Lister.with_context p z leaves mid between s' d t ys → HasFound g.L.Lister.asked g.L.Lister.given g.L.Lister.is_for g.L.Lister.with_context p z leaves new after s'' d t ys (Err c.in-Err-find_body.end)) same c.in-Err-find_body.ensures.found d t ys (c.in-Ok.ensures.taken d t ys h) in
    (found.0, subst (IsCause (fixed_of p m leaves) d t ys) (sym c.end_of-in-Err-find_body.ensures) (found.1 k more))

pub give_body-requires-2-clause-due : goal.give_body-requires-2-clause-due
give_body-requires-2-clause-due g c =
    (c.in-Ok-true.ensures.due c.in-Ok-true.field-0-test).0

pub give_body-requires-2-clause-found : goal.give_body-requires-2-clause-found
give_body-requires-2-clause-found g c =
    (c.in-Ok-true.ensures.due c.in-Ok-true.field-0-test).1

pub returns-clause-next : goal.returns-clause-next
returns-clause-next g c = λ d t ys h.
    let m = g.E.Evaluator.meanings c.args.evaluator.now in
    let p = c.args.program.now in
    let leaves = c.args.leaves.now in
    let old = c.args.store.now in
    let before = g.E.Evaluator.table c.args.evaluator.now in
    let s = c.args.cursor.now in
    let k = s.calls - 1 in
    let more : d.calls ≡ suc k = h.calls ∙ suc_less s.calls c.if-cursor-eq0.false in
    let mid = c.have_values.new.store in
    let between = g.E.Evaluator.table c.have_values.new.evaluator in
    let m' = g.E.Evaluator.meanings c.have_values.new.evaluator in
    let same : m' ≡ m = c.have_values.ensures.meanings in
    let s' = c.have_values.new.cursor in
    let new = c.find_body.new.store in
    let after = g.E.Evaluator.table c.find_body.new.evaluator in
    let s'' = c.find_body.new.cursor in
    let found = subst (λ (z : Meanings). (d : Todo) (t : Tree) (ys : List Yield) → IsCallCursor g.L.Lister.asked g.L.Lister.given g.L.Lister.is_for g.L.Lister.with_context p z leaves mid between s' d t ys → HasFound g.L.Lister.asked g.L.Lister.given g.L.Lister.is_for g.L.Lister.with_context p z leaves new after s'' d t ys (Ok true)) same
    (subst (λ b. (d : Todo) (t : Tree) (ys : List Yield) → IsCallCursor g.L.Lister.asked g.L.Lister.given g.L.Lister.is_for g.L.Lister.with_context p m' leaves mid between s' d t ys → HasFound g.L.Lister.asked g.L.Lister.given g.L.Lister.is_for g.L.Lister.with_context p m' leaves new after s'' d t ys (Ok b)) c.in-Ok-true.field-0-test c.in-Ok-true.ensures.found) d t ys (c.in-Ok.ensures.taken d t ys h) in
    body_yields g.L.Lister.asked g.L.Lister.given g.L.Lister.is_for g.L.Lister.with_context p m leaves new after s'' d t ys found k more (c.in-Ok-true.ensures.due c.in-Ok-true.field-0-test).0 c.give_body-2.new.cursor c.give_body-2.result c.give_body-2.ensures.given

pub returns-in-Ok-false-clause-kept : goal.returns-in-Ok-false-clause-kept
returns-in-Ok-false-clause-kept g c =
    kept_on (g.E.Evaluator.table c.args.evaluator.now) (g.E.Evaluator.table c.have_values.new.evaluator) (g.E.Evaluator.table c.find_body.new.evaluator) c.have_values.ensures.kept c.find_body.ensures.kept

pub returns-in-Err-find_body-clause-kept : goal.returns-in-Err-find_body-clause-kept
returns-in-Err-find_body-clause-kept g c =
    kept_on (g.E.Evaluator.table c.args.evaluator.now) (g.E.Evaluator.table c.have_values.new.evaluator) (g.E.Evaluator.table c.find_body.new.evaluator) c.have_values.ensures.kept c.find_body.ensures.kept

pub returns-clause-kept : goal.returns-clause-kept
returns-clause-kept g c =
    kept_on (g.E.Evaluator.table c.args.evaluator.now) (g.E.Evaluator.table c.have_values.new.evaluator) (g.E.Evaluator.table c.find_body.new.evaluator) c.have_values.ensures.kept c.find_body.ensures.kept
