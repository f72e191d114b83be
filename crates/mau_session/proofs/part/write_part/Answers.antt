use Rattle.std.proofs.Common.{◌≡◌, ℕ, ◌++◌, List, codes, sym, ap, ap₂, ◌∙◌, subst}
use Rattle.std.proofs.lemmas.Result.{on_ok_weaker}
use Rattle.mau_terms.specs.Norm.{norm}
use Rattle.mau_terms.specs.Subst.{with_values}
use Rattle.mau_terms.specs.View.{tree_of}
use Rattle.mau_terms.specs.declared.ids.TermId.{TermId}
use Rattle.mau_signature.specs.Signature.{IsOperator, theory_at}
use Rattle.mau_store.specs.Trees.{trees_at}
use Rattle.mau_store.specs.View.{numbers}
use Rattle.mau_store.proofs.Growth.{trees_at-extends}
use Rattle.mau_store.proofs.Standing.{tree_at-extends}
use Rattle.mau_canon.specs.Within.{IsWithin}
use Rattle.mau_canon.specs.Standing.{StandWithin}
use Rattle.mau_canon.proofs.Standing.{stand_there, stand_within_extended}
use Rattle.mau_listing.specs.Asked.{matcher_in, IsGiven}
use Rattle.mau_session.specs.Answers.{term_line, context_line, right_label, part_lines}
use Rattle.mau_session.specs.Parts.{IsContext}
use Rattle.mau_session.specs.KeptQuery.{asked_for}
use Rattle.mau_session.specs.Shown.{printer_in}
use Rattle.mau_session.proofs.Around.{is_around}
use Rattle.mau_session.proofs.PartLines.{whole_lines, part_written}
use Rattle.mau_session.proofs.part.write_part.Goals as goal

pub returns-then-is_whole-clause-gained : goal.returns-then-is_whole-clause-gained
returns-then-is_whole-clause-gained c =
    let m = c.args.module.now in
    let q = c.args.query.now in
    let found = matcher_in q.store c.args.solution.now in
    on_ok_weaker c.write_text.result
    (λ e.
    e
    ∙ ap (λ w. c.args.out.now.items ++ w) (sym (whole_lines m q.vars (tree_of q.pattern) found (sym (c.is_whole.ensures q.store) ∙ c.if-is_whole.true)))
    ∙ ap (λ w. c.args.out.now.items ++ part_lines m q.vars w (tree_of q.pattern) found) (sym c.if-not-query.false)) c.write_text.ensures

pub write_portion-requires-clause-within : goal.write_portion-requires-clause-within
write_portion-requires-clause-within c =
    let s = c.args.module.now.signature in
    let q = c.args.query.now in
    let x = c.args.solution.now in
    let given = subst (λ w. IsGiven w s q.store c.requires.given.0 (asked_for q) x) c.if-not-query.false c.requires.given.1 in
    let around = is_around s q c.requires.query c.requires.given.0 x given (sym (c.is_whole.ensures q.store) ∙ c.if-is_whole.false) in
    subst (λ (l : List TermId). IsWithin (theory_at s) (norm (theory_at s) (with_values (tree_of q.pattern) (trees_at q.store (numbers l))))) (sym c.items.ensures) around.portion

pub operator_of-op-requires-clause-top : goal.operator_of-op-requires-clause-top
operator_of-op-requires-clause-top c =
    let s = c.args.module.now.signature in
    let q = c.args.query.now in
    let x = c.args.solution.now in
    let given = subst (λ w. IsGiven w s q.store c.requires.given.0 (asked_for q) x) c.if-not-query.false c.requires.given.1 in
    let around = is_around s q c.requires.query c.requires.given.0 x given (sym (c.is_whole.ensures q.store) ∙ c.if-is_whole.false) in
    let new = c.write_portion.new.store in
    let extends = c.write_portion.ensures.extends in
    (around.op, around.elements, tree_at-extends q.store new q.number.0 extends c.requires.query.askable.subject.there ∙ around.subject)

pub write_contexts-requires-clause-operator : goal.write_contexts-requires-clause-operator
write_contexts-requires-clause-operator c =
    let s = c.args.module.now.signature in
    let q = c.args.query.now in
    let x = c.args.solution.now in
    let given = subst (λ w. IsGiven w s q.store c.requires.given.0 (asked_for q) x) c.if-not-query.false c.requires.given.1 in
    let around = is_around s q c.requires.query c.requires.given.0 x given (sym (c.is_whole.ensures q.store) ∙ c.if-is_whole.false) in
    let new = c.write_portion.new.store in
    let extends = c.write_portion.ensures.extends in
    let there = c.requires.query.askable.subject.there in
    let op : c.operator_of-op.result.0 ≡ around.op = c.operator_of-op.ensures around.op around.elements (tree_at-extends q.store new q.number.0 extends there ∙ around.subject) in
    subst (IsOperator s) (sym op) around.operator

pub write_contexts-requires-clause-left : goal.write_contexts-requires-clause-left
write_contexts-requires-clause-left c =
    let th = theory_at c.args.module.now.signature in
    let new = c.write_portion.new.store in
    subst (λ (l : List TermId). StandWithin th new (numbers l)) (sym c.items-2.ensures)
    (stand_within_extended th c.args.query.now.store new (numbers c.args.solution.now.left) c.write_portion.ensures.extends c.requires.given.1.left)

pub write_contexts-requires-clause-right : goal.write_contexts-requires-clause-right
write_contexts-requires-clause-right c =
    let th = theory_at c.args.module.now.signature in
    let new = c.write_portion.new.store in
    subst (λ (l : List TermId). StandWithin th new (numbers l)) (sym c.items-3.ensures)
    (stand_within_extended th c.args.query.now.store new (numbers c.args.solution.now.right) c.write_portion.ensures.extends c.requires.given.1.right)

pub write_contexts-requires-clause-left_context : goal.write_contexts-requires-clause-left_context
write_contexts-requires-clause-left_context c =
    let s = c.args.module.now.signature in
    let q = c.args.query.now in
    let x = c.args.solution.now in
    let given = subst (λ w. IsGiven w s q.store c.requires.given.0 (asked_for q) x) c.if-not-query.false c.requires.given.1 in
    let around = is_around s q c.requires.query c.requires.given.0 x given (sym (c.is_whole.ensures q.store) ∙ c.if-is_whole.false) in
    let new = c.write_portion.new.store in
    let extends = c.write_portion.ensures.extends in
    let there = c.requires.query.askable.subject.there in
    let op : c.operator_of-op.result.0 ≡ around.op = c.operator_of-op.ensures around.op around.elements (tree_at-extends q.store new q.number.0 extends there ∙ around.subject) in
    let ids = numbers x.left in
    let same = trees_at-extends q.store new ids extends (stand_there (theory_at s) q.store ids given.left) in
    subst (λ (l : List TermId). IsContext s c.operator_of-op.result.0 (trees_at new (numbers l))) (sym c.items-2.ensures)
    (subst (λ f. IsContext s f (trees_at new ids)) (sym op) (subst (IsContext s around.op) (sym same) around.left))

pub write_contexts-requires-clause-right_context : goal.write_contexts-requires-clause-right_context
write_contexts-requires-clause-right_context c =
    let s = c.args.module.now.signature in
    let q = c.args.query.now in
    let x = c.args.solution.now in
    let given = subst (λ w. IsGiven w s q.store c.requires.given.0 (asked_for q) x) c.if-not-query.false c.requires.given.1 in
    let around = is_around s q c.requires.query c.requires.given.0 x given (sym (c.is_whole.ensures q.store) ∙ c.if-is_whole.false) in
    let new = c.write_portion.new.store in
    let extends = c.write_portion.ensures.extends in
    let there = c.requires.query.askable.subject.there in
    let op : c.operator_of-op.result.0 ≡ around.op = c.operator_of-op.ensures around.op around.elements (tree_at-extends q.store new q.number.0 extends there ∙ around.subject) in
    let ids = numbers x.right in
    let same = trees_at-extends q.store new ids extends (stand_there (theory_at s) q.store ids given.right) in
    subst (λ (l : List TermId). IsContext s c.operator_of-op.result.0 (trees_at new (numbers l))) (sym c.items-3.ensures)
    (subst (λ f. IsContext s f (trees_at new ids)) (sym op) (subst (IsContext s around.op) (sym same) around.right))

pub returns-clause-gained : goal.returns-clause-gained
returns-clause-gained c =
    let s = c.args.module.now.signature in
    let q = c.args.query.now in
    let x = c.args.solution.now in
    let given = subst (λ w. IsGiven w s q.store c.requires.given.0 (asked_for q) x) c.if-not-query.false c.requires.given.1 in
    let around = is_around s q c.requires.query c.requires.given.0 x given (sym (c.is_whole.ensures q.store) ∙ c.if-is_whole.false) in
    let new = c.write_portion.new.store in
    let extends = c.write_portion.ensures.extends in
    let there = c.requires.query.askable.subject.there in
    let op : c.operator_of-op.result.0 ≡ around.op = c.operator_of-op.ensures around.op around.elements (tree_at-extends q.store new q.number.0 extends there ∙ around.subject) in
    let m = c.args.module.now in
    let p = tree_of q.pattern in
    let o = c.args.out.now.items in
    let a = c.write_portion.new.out.items in
    let b = c.write_contexts.new.out.items in
    let no = sym (c.is_whole.ensures q.store) ∙ c.if-is_whole.false in
    let same_left = trees_at-extends q.store new (numbers x.left) extends (stand_there (theory_at s) q.store (numbers x.left) given.left) in
    let same_right = trees_at-extends q.store new (numbers x.right) extends (stand_there (theory_at s) q.store (numbers x.right) given.right) in
    let portion : List TermId → List ℕ = λ l. o ++ term_line (printer_in m) q.vars (codes "Matched portion") (norm (theory_at s) (with_values p (trees_at q.store (numbers l)))) in
    let contexts : ℕ → List TermId → List TermId → List ℕ = λ f l r. a
    ++ (context_line m q.vars f (codes "Left context") (trees_at new (numbers l)) ++ context_line m q.vars f (right_label (theory_at s f).comm) (trees_at new (numbers r))) in
    let first : a ≡ portion x.values = c.in_ok-write_portion.ensures.gained ∙ ap portion c.items.ensures in
    on_ok_weaker c.write_contexts.result
    (λ e.
    part_written m q.vars p q.store new x around.op o a b no around.top same_left same_right first (e ∙ ap₂ (contexts c.operator_of-op.result.0) c.items-2.ensures c.items-3.ensures ∙ ap (λ f. contexts f x.left x.right) op)
    ∙ ap (λ w. o ++ part_lines m q.vars w p (matcher_in q.store x)) (sym c.if-not-query.false)) c.write_contexts.ensures.gained
