use Rattle.std.proofs.Common.{◌≡◌, map, ap, subst, sym, arith}
use Rattle.mau_terms.specs.Tree.{node}
use Rattle.mau_terms.specs.Depth.{depth}
use Rattle.mau_terms.specs.Bare.{IsBare}
use Rattle.mau_terms.specs.View.{tree_of}
use Rattle.mau_signature.specs.Signature.{terms_over}
use Rattle.mau_terms.proofs.BareTerms.{bare_each, bare_node, depth_of_node, at_most_list}
use Rattle.mau_syntactic.proofs.free.+free.Goals as goal

pub has_free_operators-have_free_operators-requires : goal.has_free_operators-have_free_operators-requires
has_free_operators-have_free_operators-requires t c =
    let s = terms_over c.args.sig.now in
    let e : tree_of c.args.term.now ≡ node c.in-App.op.0 (map tree_of c.items.result.now) = bare_node c.args.term.now c.in-App.op _ c.items.result.now c.in-App.is c.items.ensures in
    let bare : IsBare s (node c.in-App.op.0 (map tree_of c.items.result.now)) = subst (IsBare s) e c.requires in
    let d = depth_of_node c.args.term.now c.in-App.op.0 c.items.result.now e in
    (omega (arith, d), bare_each s c.items.result.now _ bare.1.2)

pub have_free_operators-has_free_operators-requires : goal.have_free_operators-has_free_operators-requires
have_free_operators-has_free_operators-requires t c =
    let k = at_most_list c.args.terms.now c.loop-term.term-index c.term-item.result c.loop-term-test.true in (
      omega (arith, k, ap (λ x. depth (tree_of x)) c.term-item.is),
      subst (λ b. IsBare (terms_over c.args.sig.now) (tree_of b)) (sym c.term-item.is) (c.requires c.loop-term.term-index c.term-item.result c.loop-term-test.true),
    )
