use Rattle.std.proofs.Common.{◌≡◌, true, false, map, take, add-one, sym, ap, ◌∙◌, subst, arith}
use Rattle.std.specs.List.{list_any}
use Rattle.mau_terms.specs.Tree.{node, trees_of}
use Rattle.mau_terms.specs.Depth.{depth}
use Rattle.mau_terms.specs.Bare.{IsBare}
use Rattle.mau_terms.specs.Subst.{same_variable}
use Rattle.mau_terms.specs.Solution.{add_places, add_all_places}
use Rattle.mau_terms.specs.View.{tree_of, variable_of}
use Rattle.mau_signature.specs.Signature.{terms_over, theory_at}
use Rattle.mau_terms.proofs.BareTerms.{bare_each, bare_node, depth_of_node, at_most_list}
use Rattle.mau_signature.proofs.Operators.{is_operator}
use Rattle.mau_listing.specs.Places.{operator_number, places_in, assoc_or_none}
use Rattle.mau_listing.proofs.Placed.{add_all_more, added, places_push}
use Rattle.mau_listing.proofs.places.+places.Goals as goal

pub add_term-add_arguments-requires : goal.add_term-add_arguments-requires
add_term-add_arguments-requires t c =
    let s = terms_over c.args.sig.now in
    let e : tree_of c.args.term.now ≡ node c.in-App.op.0 (map tree_of c.items.result.now) = bare_node c.args.term.now c.in-App.op _ c.items.result.now c.in-App.is c.items.ensures in
    let bare : IsBare s (node c.in-App.op.0 (map tree_of c.items.result.now)) = subst (IsBare s) e c.requires.bare in
    let d = depth_of_node c.args.term.now c.in-App.op.0 c.items.result.now e in (
      omega (arith, d),
      (bare_each s c.items.result.now _ bare.1.2, (c.requires.operators, is_operator c.args.sig.now c.in-App.op.0 bare.1.0)),
    )

pub add_term-returns-in_ok-push-in-Var-clause-ok : goal.add_term-returns-in_ok-push-in-Var-clause-ok
add_term-returns-in_ok-push-in-Var-clause-ok t c =
    let th = theory_at c.args.sig.now in
    let ps = c.args.found.now.items in
    let v = c.in-Var.variable in
    let absent : list_any (λ p. same_variable (variable_of p.variable) (variable_of v)) ps ≡ false =
    ap (list_any (λ p. same_variable (variable_of p.variable) (variable_of v))) (sym c.deref.ensures.value) ∙ sym c.is_among.ensures ∙ c.if-not-is_among.true in
    ap places_in c.in_ok-push-in-Var.ensures.items
    ∙ places_push ps (record { variable = v; under = c.args.under })
    ∙ sym (added th c.args.under ps v false absent)
    ∙ ap (λ b. add_places th (operator_number c.args.under) (places_in ps) (tree_of b)) (sym c.in-Var.is)

pub add_term-returns-else-not-is_among-clause-ok : goal.add_term-returns-else-not-is_among-clause-ok
add_term-returns-else-not-is_among-clause-ok t c =
    let th = theory_at c.args.sig.now in
    let ps = c.args.found.now.items in
    let v = c.in-Var.variable in
    let there : list_any (λ p. same_variable (variable_of p.variable) (variable_of v)) ps ≡ true =
    ap (list_any (λ p. same_variable (variable_of p.variable) (variable_of v))) (sym c.deref.ensures.value) ∙ sym c.is_among.ensures ∙ c.if-not-is_among.false in
    sym (added th c.args.under ps v true there)
    ∙ ap (λ b. add_places th (operator_number c.args.under) (places_in ps) (tree_of b)) (sym c.in-Var.is)

pub add_arguments-add_term-requires : goal.add_arguments-add_term-requires
add_arguments-add_term-requires t c =
    let k = at_most_list c.args.terms.now c.loop-term.term-index c.term-item.result c.loop-term-test.true in (
      omega (arith, k, ap (λ x. depth (tree_of x)) c.term-item.is),
      (subst (λ b. IsBare (terms_over c.args.sig.now) (tree_of b)) (sym c.term-item.is) (c.requires.bare c.loop-term.term-index c.term-item.result c.loop-term-test.true), (c.loop-term.invariant.operators, c.if_assoc-under.ensures.operator)),
    )

pub add_arguments-loop-term-preserved : goal.add_arguments-loop-term-preserved
add_arguments-loop-term-preserved t c =
    let th = theory_at c.args.sig.now in
    let o = assoc_or_none c.args.sig.now c.args.op.0 in
    let k = c.loop-term.term-index in
    let terms = c.args.terms.now in
    record {
      places =
          c.in_ok-add_term.ensures.ok
          ∙ ap (λ u. add_places th u (places_in c.loop-term.found.items) (tree_of c.term-item.result)) c.if_assoc-under.ensures.value
          ∙ ap (λ xs. add_places th o xs (tree_of c.term-item.result)) c.loop-term.invariant.places
          ∙ ap (λ b. add_places th o (add_all_places th o (places_in c.args.found.now.items) (trees_of (map tree_of (take k terms)))) (tree_of b)) c.term-item.is
          ∙ sym (add_all_more th o (places_in c.args.found.now.items) terms k c.term-item.result c.loop-term-test.true)
          ∙ ap (λ n. add_all_places th o (places_in c.args.found.now.items) (trees_of (map tree_of (take n terms)))) (sym (add-one k));
      operators = c.in_ok-add_term.ensures.operators;
    }
