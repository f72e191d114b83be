use Rattle.std.proofs.Common.{◌≡◌, map, take, add-one, sym, ap, ◌∙◌, subst, arith}
use Rattle.mau_terms.specs.Tree.{node, trees_of}
use Rattle.mau_terms.specs.Depth.{depth}
use Rattle.mau_terms.specs.Bare.{IsBare}
use Rattle.mau_terms.specs.Subst.{add_variables, add_all_variables}
use Rattle.mau_terms.specs.View.{tree_of}
use Rattle.mau_signature.specs.Signature.{terms_over}
use Rattle.mau_terms.proofs.BareTerms.{bare_each, bare_node, depth_of_node, at_most_list}
use Rattle.mau_making.specs.Variables.{variables_in}
use Rattle.mau_making.proofs.Adding.{more_terms}
use Rattle.mau_making.proofs.variables.+adding.Goals as goal

pub add_term-add_all-requires : goal.add_term-add_all-requires
add_term-add_all-requires t c =
    let s = terms_over c.args.sig.now in
    let e : tree_of c.args.term.now ≡ node c.in-App.field-0.0 (map tree_of c.items.result.now) = bare_node c.args.term.now c.in-App.field-0 _ c.items.result.now c.in-App.is c.items.ensures in
    let bare : IsBare s (node c.in-App.field-0.0 (map tree_of c.items.result.now)) = subst (IsBare s) e c.requires.bare in
    let d = depth_of_node c.args.term.now c.in-App.field-0.0 c.items.result.now e in (
      omega (arith, d),
      (bare_each s c.items.result.now _ bare.1.2, c.requires.sorts),
    )

pub add_all-add_term-requires : goal.add_all-add_term-requires
add_all-add_term-requires t c =
    let k = at_most_list c.args.terms.now c.loop-term.term-index c.term-item.result c.loop-term-test.true in (
      omega (arith, k, ap (λ x. depth (tree_of x)) c.term-item.is),
      (subst (λ b. IsBare (terms_over c.args.sig.now) (tree_of b)) (sym c.term-item.is) (c.requires.bare c.loop-term.term-index c.term-item.result c.loop-term-test.true), c.loop-term.invariant.sorts),
    )

pub add_all-loop-term-preserved : goal.add_all-loop-term-preserved
add_all-loop-term-preserved t c =
    let xs = variables_in c.args.found.now.items in
    let k = c.loop-term.term-index in
    let terms = c.args.terms.now in
    record {
      added =
          c.in_ok-add_term.ensures.ok
          ∙ ap (λ ys. add_variables ys (tree_of c.term-item.result)) c.loop-term.invariant.added
          ∙ ap (λ b. add_variables (add_all_variables xs (trees_of (map tree_of (take k terms)))) (tree_of b)) c.term-item.is
          ∙ sym (more_terms xs terms k c.term-item.result c.loop-term-test.true)
          ∙ ap (λ n. add_all_variables xs (trees_of (map tree_of (take n terms)))) (sym (add-one k));
      sorts = c.add_term.ensures.sorts;
    }
