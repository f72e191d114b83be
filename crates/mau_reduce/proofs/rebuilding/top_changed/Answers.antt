use Rattle.std.proofs.Common.{◌≡◌, ◌&&◌, true, false, not, inl, inr, length, sym, ap, ◌∙◌, eqb-true}
use Rattle.std.proofs.lemmas.Bool.{eqb-false}
use Rattle.std.proofs.lemmas.List.{length-map}
use Rattle.mau_terms.specs.Tree.{node, variable, numeral}
use Rattle.mau_terms.specs.declared.ids.TermId.{TermId}
use Rattle.mau_store.specs.Trees.{tree_at, trees_at, tree_over}
use Rattle.mau_store.specs.View.{numbers, node_of}
use Rattle.mau_store.specs.Equal.{Decides-ids}
use Rattle.mau_evaluation.specs.Evaluation.{count_up, is_none, names_all}
use Rattle.mau_reduce.proofs.Tops.{same_tops, same_ids, there_of, none_of, is_no_node, is_list, is_same, is_free, is_exchanged, is_other}
use Rattle.mau_reduce.proofs.rebuilding.top_changed.Goals as goal

pub returns-else-eq : goal.returns-else-eq
returns-else-eq c = is_no_node c.args.sig.now c.requires.lawful c.args.store.now c.view.ensures.nodes c.args.op.0 c.args.order.now c.args.args.now c.requires.under c.args.built.0 c.requires.built c.requires.is (λ us h. eqb-false c.in-App.top.0 c.args.op.0 (sym c.eq.ensures ∙ c.if-eq.false) (same_tops _ _ _ _ (sym c.in-App.ensures.tree ∙ h)))

pub returns-in-Num : goal.returns-in-Num
returns-in-Num c = is_no_node c.args.sig.now c.requires.lawful c.args.store.now c.view.ensures.nodes c.args.op.0 c.args.order.now c.args.args.now c.requires.under c.args.built.0 c.requires.built c.requires.is (λ us h. elim c.in-Num.is [
  | inl p ↦ let q : numeral p.0 ≡ node c.args.op.0 us = sym (c.view.ensures.tree ∙ ap (λ v. tree_over (tree_at c.args.store.now) (node_of v)) p.1) ∙ h in cc
  | inr p ↦ let q : variable p.0.index p.0.sort ≡ node c.args.op.0 us = sym (c.view.ensures.tree ∙ ap (λ v. tree_over (tree_at c.args.store.now) (node_of v)) p.1) ∙ h in cc
])

pub returns-then-theory : goal.returns-then-theory
returns-then-theory c =
    let e : tree_at c.args.store.now c.args.built.0 ≡ node c.args.op.0 (trees_at c.args.store.now (numbers c.in-App.ids.now)) = c.in-App.ensures.tree ∙ ap (λ f. node f (trees_at c.args.store.now (numbers c.in-App.ids.now))) (eqb-true c.in-App.top.0 c.args.op.0 (sym c.eq.ensures ∙ c.if-eq.true)) in
    is_list c.args.sig.now c.requires.lawful c.args.store.now c.view.ensures.nodes c.args.op.0 c.args.order.now c.args.args.now c.requires.under c.args.built.0 c.requires.built c.requires.is c.in-App.ids.now (there_of c.args.sig.now c.requires.lawful c.args.store.now c.view.ensures.nodes c.args.op.0 c.args.order.now c.args.args.now c.requires.under c.args.built.0 c.requires.built c.requires.is c.in-App.top.0 (numbers c.in-App.ids.now) c.in-App.ensures.node) e (ap (λ h. h.assoc) (sym c.theory.ensures.value) ∙ c.if-theory.true)

pub returns-then-eq-2 : goal.returns-then-eq-2
returns-then-eq-2 c =
    let e : tree_at c.args.store.now c.args.built.0 ≡ node c.args.op.0 (trees_at c.args.store.now (numbers c.in-App.ids.now)) = c.in-App.ensures.tree ∙ ap (λ f. node f (trees_at c.args.store.now (numbers c.in-App.ids.now))) (eqb-true c.in-App.top.0 c.args.op.0 (sym c.eq.ensures ∙ c.if-eq.true)) in
    is_same c.args.sig.now c.requires.lawful c.args.store.now c.view.ensures.nodes c.args.op.0 c.args.order.now c.args.args.now c.requires.under c.args.built.0 c.requires.built c.requires.is c.in-App.ids.now (there_of c.args.sig.now c.requires.lawful c.args.store.now c.view.ensures.nodes c.args.op.0 c.args.order.now c.args.args.now c.requires.under c.args.built.0 c.requires.built c.requires.is c.in-App.top.0 (numbers c.in-App.ids.now) c.in-App.ensures.node) e (ap (λ h. h.assoc) (sym c.theory.ensures.value) ∙ c.if-theory.false) (same_ids c.in-App.ids.now c.args.args.now ((Decides-ids c.in-App.ids.now c.args.args.now).0 (sym c.eq-2.ensures ∙ c.if-eq-2.true)))

pub returns-then-not-theory : goal.returns-then-not-theory
returns-then-not-theory c =
    let e : tree_at c.args.store.now c.args.built.0 ≡ node c.args.op.0 (trees_at c.args.store.now (numbers c.in-App.ids.now)) = c.in-App.ensures.tree ∙ ap (λ f. node f (trees_at c.args.store.now (numbers c.in-App.ids.now))) (eqb-true c.in-App.top.0 c.args.op.0 (sym c.eq.ensures ∙ c.if-eq.true)) in
    is_free c.args.sig.now c.requires.lawful c.args.store.now c.view.ensures.nodes c.args.op.0 c.args.order.now c.args.args.now c.requires.under c.args.built.0 c.requires.built c.requires.is c.in-App.ids.now (there_of c.args.sig.now c.requires.lawful c.args.store.now c.view.ensures.nodes c.args.op.0 c.args.order.now c.args.args.now c.requires.under c.args.built.0 c.requires.built c.requires.is c.in-App.top.0 (numbers c.in-App.ids.now) c.in-App.ensures.node) e (ap (λ h. h.assoc) (sym c.theory.ensures.value) ∙ c.if-theory.false) (λ q. let h : true ≡ false = sym ((Decides-ids c.in-App.ids.now c.args.args.now).1 (ap numbers q)) ∙ (sym c.eq-2.ensures ∙ c.if-eq-2.false) in cc) (ap (λ h. h.comm) (sym c.theory-2.ensures.value) ∙ c.if-not-theory.true)

pub returns-then-not-are_exchanged : goal.returns-then-not-are_exchanged
returns-then-not-are_exchanged c =
    let e : tree_at c.args.store.now c.args.built.0 ≡ node c.args.op.0 (trees_at c.args.store.now (numbers c.in-App.ids.now)) = c.in-App.ensures.tree ∙ ap (λ f. node f (trees_at c.args.store.now (numbers c.in-App.ids.now))) (eqb-true c.in-App.top.0 c.args.op.0 (sym c.eq.ensures ∙ c.if-eq.true)) in
    is_other c.args.sig.now c.requires.lawful c.args.store.now c.view.ensures.nodes c.args.op.0 c.args.order.now c.args.args.now c.requires.under c.args.built.0 c.requires.built c.requires.is c.in-App.ids.now (there_of c.args.sig.now c.requires.lawful c.args.store.now c.view.ensures.nodes c.args.op.0 c.args.order.now c.args.args.now c.requires.under c.args.built.0 c.requires.built c.requires.is c.in-App.top.0 (numbers c.in-App.ids.now) c.in-App.ensures.node) e (ap (λ h. h.assoc) (sym c.theory.ensures.value) ∙ c.if-theory.false) (λ q. let h : true ≡ false = sym ((Decides-ids c.in-App.ids.now c.args.args.now).1 (ap numbers q)) ∙ (sym c.eq-2.ensures ∙ c.if-eq-2.false) in cc) (ap (λ h. h.comm) (sym c.theory-2.ensures.value) ∙ c.if-not-theory.false) (c.are_exchanged.ensures.not_exchanged c.if-not-are_exchanged.true)

pub returns-then-not-is_empty : goal.returns-then-not-is_empty
returns-then-not-is_empty c =
    let e : tree_at c.args.store.now c.args.built.0 ≡ node c.args.op.0 (trees_at c.args.store.now (numbers c.in-App.ids.now)) = c.in-App.ensures.tree ∙ ap (λ f. node f (trees_at c.args.store.now (numbers c.in-App.ids.now))) (eqb-true c.in-App.top.0 c.args.op.0 (sym c.eq.ensures ∙ c.if-eq.true)) in
    let ts = trees_at c.args.store.now (numbers c.args.args.now) in
    let long : length ts ≡ length c.args.args.now = length-map (numbers c.args.args.now) (tree_at c.args.store.now) ∙ length-map c.args.args.now (λ (x : TermId). x.0) in
    let none : is_none c.args.order.now ≡ false = none_of c.args.order.now c.is_empty.result c.is_empty.ensures ∙ c.if-not-is_empty.true in
    ap not (c.names_all.ensures ts long) ∙ sym (is_exchanged c.args.sig.now c.requires.lawful c.args.store.now c.view.ensures.nodes c.args.op.0 c.args.order.now c.args.args.now c.requires.under c.args.built.0 c.requires.built c.requires.is c.in-App.ids.now (there_of c.args.sig.now c.requires.lawful c.args.store.now c.view.ensures.nodes c.args.op.0 c.args.order.now c.args.args.now c.requires.under c.args.built.0 c.requires.built c.requires.is c.in-App.top.0 (numbers c.in-App.ids.now) c.in-App.ensures.node) e (ap (λ h. h.assoc) (sym c.theory.ensures.value) ∙ c.if-theory.false) (λ q. let h : true ≡ false = sym ((Decides-ids c.in-App.ids.now c.args.args.now).1 (ap numbers q)) ∙ (sym c.eq-2.ensures ∙ c.if-eq-2.false) in cc) (ap (λ h. h.comm) (sym c.theory-2.ensures.value) ∙ c.if-not-theory.false) (c.are_exchanged.ensures.exchanged c.if-not-are_exchanged.false) ∙ ap (λ b. not b && not (names_all (count_up 0 ts) c.args.order.now)) none)

pub returns-else-not-is_empty : goal.returns-else-not-is_empty
returns-else-not-is_empty c =
    let e : tree_at c.args.store.now c.args.built.0 ≡ node c.args.op.0 (trees_at c.args.store.now (numbers c.in-App.ids.now)) = c.in-App.ensures.tree ∙ ap (λ f. node f (trees_at c.args.store.now (numbers c.in-App.ids.now))) (eqb-true c.in-App.top.0 c.args.op.0 (sym c.eq.ensures ∙ c.if-eq.true)) in
    let ts = trees_at c.args.store.now (numbers c.args.args.now) in
    let none : is_none c.args.order.now ≡ true = none_of c.args.order.now c.is_empty.result c.is_empty.ensures ∙ c.if-not-is_empty.false in
    ap not c.if-not-is_empty.false ∙ sym (is_exchanged c.args.sig.now c.requires.lawful c.args.store.now c.view.ensures.nodes c.args.op.0 c.args.order.now c.args.args.now c.requires.under c.args.built.0 c.requires.built c.requires.is c.in-App.ids.now (there_of c.args.sig.now c.requires.lawful c.args.store.now c.view.ensures.nodes c.args.op.0 c.args.order.now c.args.args.now c.requires.under c.args.built.0 c.requires.built c.requires.is c.in-App.top.0 (numbers c.in-App.ids.now) c.in-App.ensures.node) e (ap (λ h. h.assoc) (sym c.theory.ensures.value) ∙ c.if-theory.false) (λ q. let h : true ≡ false = sym ((Decides-ids c.in-App.ids.now c.args.args.now).1 (ap numbers q)) ∙ (sym c.eq-2.ensures ∙ c.if-eq-2.false) in cc) (ap (λ h. h.comm) (sym c.theory-2.ensures.value) ∙ c.if-not-theory.false) (c.are_exchanged.ensures.exchanged c.if-not-are_exchanged.false) ∙ ap (λ b. not b && not (names_all (count_up 0 ts) c.args.order.now)) none)
