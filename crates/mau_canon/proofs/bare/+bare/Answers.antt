use Rattle.std.proofs.Common.{◌≡◌, ℕ, get_or, ◌++◌, ◌||◌, true, List, map, take, sym, ap, ap₂, ◌∙◌, subst, arith, rules, tests}
use Rattle.std.proofs.lemmas.List.Elements.{All-nil}
use Rattle.std.proofs.lemmas.Option.{slice_get_within}
use Rattle.mau_terms.specs.Tree.{Tree, node}
use Rattle.mau_terms.specs.Depth.{depth}
use Rattle.mau_terms.specs.Norm.{all_pieces, arrange, norm, holds_overflow}
use Rattle.mau_terms.specs.Solution.{list_under, over_list}
use Rattle.mau_terms.specs.Bare.{IsBare}
use Rattle.mau_terms.specs.Subst.{instance}
use Rattle.mau_terms.specs.View.{tree_of}
use Rattle.mau_terms.proofs.Induction.{instance-node}
use Rattle.mau_terms.proofs.Normal.{norm-norm}
use Rattle.mau_signature.specs.Signature.{terms_over, theory_at}
use Rattle.mau_store.specs.Node.{IsOf, AreOf}
use Rattle.mau_store.specs.Trees.{tree_at, trees_at}
use Rattle.mau_store.specs.View.{numbers}
use Rattle.mau_store.proofs.Growth.{extension_is_preorder, trees_at-extends}
use Rattle.mau_canon.specs.Judging.{is_overflow}
use Rattle.mau_canon.specs.Values.{values_in}
use Rattle.mau_canon.proofs.Elements.{trees_at-append}
use Rattle.mau_terms.proofs.BareTerms.{bare_each, bare_node, depth_of_node, at_most_list}
use Rattle.mau_signature.proofs.Operators.{is_operator}
use Rattle.mau_terms.proofs.Outcomes.{IfOk-then, OnOk-then}
use Rattle.mau_canon.proofs.Collected.{one_more, pieces-norms-more, hold-norms-more, norm-collected, holds-collected, collect_nested, holds_nested}
use Rattle.mau_canon.proofs.Standing.{stand_within_extended}
use Rattle.mau_canon.proofs.Values.{values_in-extends}
use Rattle.mau_canon.proofs.bare.+bare.Goals as goal

-- ---- normalize

pub normalize-collect_all-requires : goal.normalize-collect_all-requires
normalize-collect_all-requires t c =
    let s = terms_over c.args.sig.now in
    let e : tree_of c.args.term.now ≡ node c.in-App.op.0 (map tree_of c.items.result.now) = bare_node c.args.term.now c.in-App.op _ c.items.result.now c.in-App.is c.items.ensures in
    let bare : IsBare s (node c.in-App.op.0 (map tree_of c.items.result.now)) = subst (IsBare s) e c.requires.bare in
    let d = depth_of_node c.args.term.now c.in-App.op.0 c.items.result.now e in (
      omega (arith, d),
      (is_operator c.args.sig.now c.in-App.op.0 bare.1.0, (bare_each s c.items.result.now _ bare.1.2, (c.requires.values, subst (λ ids. AreOf c.args.store.now (numbers ids)) (sym c.new-items.ensures.items) (All-nil (IsOf c.args.store.now))))),
    )

pub normalize-returns-in_ok-intern-in-Num-clause-ok : goal.normalize-returns-in_ok-intern-in-Num-clause-ok
normalize-returns-in_ok-intern-in-Num-clause-ok t c = record {
  there = slice_get_within c.intern.new.self c.in_ok-intern-in-Num.field-0.0 _ c.in_ok-intern-in-Num.ensures.ok;
  tree = c.in_ok-intern-in-Num.ensures.tree ∙ ap (λ b. norm (theory_at c.args.sig.now) (instance (values_in c.args.store.now c.args.variables.now c.args.values.now) (tree_of b))) (sym c.in-Num.is);
}

-- the instance of the term is the operator over the instances of the arguments
args : (t : ℕ) (c : goal.normalize-After-is_overflow-here t) → List Tree
args t c = map (instance (values_in c.args.store.now c.args.variables.now c.args.values.now)) (map tree_of c.items.result.now)

term_is : (t : ℕ) (c : goal.normalize-After-is_overflow-here t) → instance (values_in c.args.store.now c.args.variables.now c.args.values.now) (tree_of c.args.term.now) ≡ node c.in-App.op.0 (args t c)
unfolding args
term_is t c =
    let g = values_in c.args.store.now c.args.variables.now c.args.values.now in
    ap (instance g) (bare_node c.args.term.now c.in-App.op _ c.items.result.now c.in-App.is c.items.ensures)
    ∙ instance-node g c.in-App.op.0 (map tree_of c.items.result.now)

found : (t : ℕ) (c : goal.normalize-After-is_overflow-here t) → tree_at c.normal_form.new.store c.in_ok-id-in-App.id.0 ≡ norm (theory_at c.args.sig.now) (node c.in-App.op.0 (args t c))
unfolding args
found t c =
    let th = theory_at c.args.sig.now in
    let f = c.in-App.op.0 in
    let ts = map (instance (values_in c.args.store.now c.args.variables.now c.args.values.now)) (map tree_of c.items.result.now) in
    let ids = c.collect_all.new.items.items in
    let s = c.collect_all.new.store in
    c.in_ok-id-in-App.ensures.ok.tree
    ∙ ap (λ h. over_list h f (trees_at s (numbers ids))) c.theory-theory.ensures.value
    ∙ norm-collected th f ts (trees_at s (numbers ids))
    (c.in_ok-below-in-App.ensures.list
    ∙ ap (λ xs. arrange (th f).comm (trees_at c.args.store.now (numbers xs) ++ all_pieces (th f).assoc (th f).id f (map (norm th) ts))) c.new-items.ensures.items)

pub normalize-returns-in_ok-id-in-App-clause-ok : goal.normalize-returns-in_ok-id-in-App-clause-ok
normalize-returns-in_ok-id-in-App-clause-ok t c = record {
  there = c.in_ok-id-in-App.ensures.ok.there;
  tree = found t c ∙ ap (norm (theory_at c.args.sig.now)) (sym (term_is t c));
}

pub normalize-returns-in_ok-id-in-App-clause-normal : goal.normalize-returns-in_ok-id-in-App-clause-normal
normalize-returns-in_ok-id-in-App-clause-normal t c =
    let th = theory_at c.args.sig.now in
    ap (norm th) (found t c) ∙ norm-norm th c.theory-theory.ensures.lawful.theories (node c.in-App.op.0 (args t c)) ∙ sym (found t c)

pub normalize-returns-in_ok-id-in-App-clause-overflows : goal.normalize-returns-in_ok-id-in-App-clause-overflows
unfolding args
normalize-returns-in_ok-id-in-App-clause-overflows t c =
    let th = theory_at c.args.sig.now in
    let f = c.in-App.op.0 in
    let ts = map (instance (values_in c.args.store.now c.args.variables.now c.args.values.now)) (map tree_of c.items.result.now) in
    ap₂ (λ x y. x || y) c.in_ok-below-in-App.ensures.overflows
    (c.is_overflow-here.ensures ∙ ap₂ (λ h v. is_overflow h.succ f v) c.theory-theory.ensures.value (found t c))
    ∙ sym (holds-collected th f c.theory-theory.ensures.lawful.theories ts)
    ∙ ap (λ v. holds_overflow th (norm th v)) (sym (term_is t c))

-- ---- collect_all

pub collect_all-collect-requires : goal.collect_all-collect-requires
collect_all-collect-requires t c =
    let k = at_most_list c.args.terms.now c.loop-term.term-index c.term-item.result c.loop-term-test.true in (
      omega (arith, k, ap (λ x. depth (tree_of x)) c.term-item.is),
      (c.requires.operator, (subst (λ b. IsBare (terms_over c.args.sig.now) (tree_of b)) (sym c.term-item.is) (c.requires.bare c.loop-term.term-index c.term-item.result c.loop-term-test.true), (stand_within_extended (theory_at c.args.sig.now) c.args.store.now c.loop-term.store (numbers c.args.values.now) c.loop-term.invariant.extends c.requires.values, c.loop-term.invariant.there))),
    )

pub collect_all-loop-term-preserved : goal.collect_all-loop-term-preserved
collect_all-loop-term-preserved t c =
    let th = theory_at c.args.sig.now in
    let f = c.args.op.0 in
    let k = c.loop-term.term-index in
    let terms = c.args.terms.now in
    let g = values_in c.args.store.now c.args.variables.now c.args.values.now in
    let same : values_in c.loop-term.store c.args.variables.now c.args.values.now ≡ g = values_in-extends th c.args.store.now c.loop-term.store c.args.variables.now c.args.values.now c.loop-term.invariant.extends c.requires.values in
    let before = map (norm th) (map (instance g) (map tree_of (take k terms))) in
    let one = norm th (instance g (tree_of c.term-item.result)) in
    let this : norm th (instance g (tree_of (get_or terms k c.term-item.result))) ≡ one = ap (λ b. norm th (instance g (tree_of b))) (sym c.term-item.is) in
    let now : norm th (instance (values_in c.loop-term.store c.args.variables.now c.args.values.now) (tree_of c.term-item.result)) ≡ one = ap (λ h. norm th (instance h (tree_of c.term-item.result))) same in
    let old = trees_at c.args.store.now (numbers c.args.items.now.items) in
    record {
      list =
          one_more (th f).comm old (all_pieces (th f).assoc (th f).id f before) (list_under (th f) f one)
          (trees_at c.loop-term.store (numbers c.loop-term.items.items)) (trees_at c.collect.new.store (numbers c.collect.new.items.items))
          c.loop-term.invariant.list
          (c.in_ok-overflows.ensures.list ∙ ap (λ v. arrange (th f).comm (trees_at c.loop-term.store (numbers c.loop-term.items.items) ++ list_under (th f) f v)) now)
          ∙ ap (λ w. arrange (th f).comm (old ++ w))
          (ap (λ v. all_pieces (th f).assoc (th f).id f before ++ list_under (th f) f v) (sym this) ∙ sym (pieces-norms-more th g terms k c.term-item.result c.loop-term-test.true f));
      overflows =
          ap₂ (λ x y. x || y) c.loop-term.invariant.overflows (c.in_ok-overflows.ensures.overflows ∙ ap (holds_overflow th) (now ∙ sym this))
          ∙ sym (hold-norms-more th g terms k c.term-item.result c.loop-term-test.true);
      there = c.in_ok-overflows.ensures.there;
      extends = extension_is_preorder.transitive c.args.store.now c.loop-term.store c.collect.new.store c.loop-term.invariant.extends c.collect.ensures.extends;
    }

-- ---- collect

pub collect-collect_all-requires : goal.collect-collect_all-requires
collect-collect_all-requires t c =
    let s = terms_over c.args.sig.now in
    let e : tree_of c.args.term.now ≡ node c.in-App.top.0 (map tree_of c.items.result.now) = bare_node c.args.term.now c.in-App.top _ c.items.result.now c.in-App.is c.items.ensures in
    let bare : IsBare s (node c.in-App.top.0 (map tree_of c.items.result.now)) = subst (IsBare s) e c.requires.bare in
    let d = depth_of_node c.args.term.now c.in-App.top.0 c.items.result.now e in (
      omega (arith, d),
      (c.requires.operator, (bare_each s c.items.result.now _ bare.1.2, (c.requires.values, c.requires.there))),
    )

pub collect-returns-then-eq-clause-list : goal.collect-returns-then-eq-clause-list
collect-returns-then-eq-clause-list t c =
    let th = theory_at c.args.sig.now in
    let f = c.args.op.0 in
    let g = values_in c.args.store.now c.args.variables.now c.args.values.now in
    let ts = map (instance g) (map tree_of c.items.result.now) in
    let same : c.in-App.top.0 ≡ f = search (rules, tests) in
    let e : instance g (tree_of c.args.term.now) ≡ node f ts = ap (instance g) (bare_node c.args.term.now c.in-App.top _ c.items.result.now c.in-App.is c.items.ensures) ∙ instance-node g c.in-App.top.0 (map tree_of c.items.result.now) ∙ ap (λ h. node h ts) same in
    let a : (th f).assoc ≡ true = ap (λ h. h.assoc) (sym c.theory-theory.ensures.value) ∙ c.if-theory.true in
    OnOk-then _ _ (λ p. collect_nested th f c.theory-theory.ensures.lawful.theories ts a (trees_at c.args.store.now (numbers c.args.items.now.items)) (trees_at c.collect_all.new.store (numbers c.collect_all.new.items.items)) p ∙ ap (λ v. arrange (th f).comm (trees_at c.args.store.now (numbers c.args.items.now.items) ++ list_under (th f) f (norm th v))) (sym e)) c.collect_all.result c.collect_all.ensures.list

pub collect-returns-then-eq-clause-overflows : goal.collect-returns-then-eq-clause-overflows
collect-returns-then-eq-clause-overflows t c =
    let th = theory_at c.args.sig.now in
    let f = c.args.op.0 in
    let g = values_in c.args.store.now c.args.variables.now c.args.values.now in
    let ts = map (instance g) (map tree_of c.items.result.now) in
    let same : c.in-App.top.0 ≡ f = search (rules, tests) in
    let e : instance g (tree_of c.args.term.now) ≡ node f ts = ap (instance g) (bare_node c.args.term.now c.in-App.top _ c.items.result.now c.in-App.is c.items.ensures) ∙ instance-node g c.in-App.top.0 (map tree_of c.items.result.now) ∙ ap (λ h. node h ts) same in
    let a : (th f).assoc ≡ true = ap (λ h. h.assoc) (sym c.theory-theory.ensures.value) ∙ c.if-theory.true in
    IfOk-then _ _ (λ o p. p ∙ sym (ap (λ v. holds_overflow th (norm th v)) e ∙ holds_nested th f c.theory-theory.ensures.lawful.theories ts a)) c.collect_all.result c.collect_all.ensures.overflows

pub collect-returns-clause-list : goal.collect-returns-clause-list
collect-returns-clause-list t c =
    let th = theory_at c.args.sig.now in
    let f = c.args.op.0 in
    let new = c.normalize.new.store in
    let ids = c.args.items.now.items in
    ap (arrange (th f).comm)
    (ap (λ xs. trees_at new (numbers xs)) c.in_ok-extend_from_slice.ensures.items
    ∙ trees_at-append new ids c.pieces.result.now
    ∙ ap₂ (λ x y. x ++ y) (trees_at-extends c.args.store.now new (numbers ids) c.normalize.ensures.extends c.requires.there)
    (c.pieces.ensures.list ∙ ap₂ (λ h v. list_under h f v) c.theory-theory.ensures.value c.in_ok-id.ensures.ok.tree))
