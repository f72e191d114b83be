use Rattle.std.proofs.Common.{◌≡◌, ◌<◌, ◌≤◌, ◌&&◌, take, length, get_or, map, refl, sym, ap, ap₂, subst, ◌∙◌, arith, add-one, lt-ltb, rules, tests}
use Rattle.std.proofs.lemmas.Bool.{le-leb}
use Rattle.mau_terms.specs.Tree.{trees_of}
use Rattle.mau_terms.specs.Depth.{depth}
use Rattle.mau_terms.specs.Bare.{IsBareIn, AreBareIn}
use Rattle.mau_terms.specs.View.{tree_of}
use Rattle.mau_terms.proofs.Taken.{one_kind}
use Rattle.mau_poset.specs.Order.{kind_of}
use Rattle.mau_signature.specs.Signature.{terms_over}
use Rattle.mau_terms.proofs.BareTerms.{bare_node, depth_of_node, at_most_list}
use Rattle.mau_terms.proofs.BareLists.{bare_more, bare_at, as_many}
use Rattle.mau_signature.proofs.bare.+bare_terms.Goals as goal

pub are_bare-is_bare-requires : goal.are_bare-is_bare-requires
are_bare-is_bare-requires t c =
    let k = at_most_list c.args.terms.now c.loop-i.i c.index-terms-i.result c.loop-i-test.true in
    (omega (arith, k, ap (λ x. depth (tree_of x)) c.index-terms-i.is), tt)

pub are_bare-loop-i-preserved : goal.are_bare-loop-i-preserved
are_bare-loop-i-preserved t c =
    let s = terms_over c.args.sig.now in
    let kind = kind_of c.args.sig.now.hierarchy in
    let i = c.loop-i.i in
    let same : c.kind.result ≡ kind (get_or c.args.sorts.now i 0) = c.if-kind-kind_of.false ∙ c.kind_of.ensures.value ∙ ap (λ h. kind_of h (get_or c.args.sorts.now i 0)) c.poset.ensures.value in
    let one : IsBareIn s (tree_of (get_or c.args.terms.now i c.index-terms-i-in-loop-i.result)) (kind (get_or c.args.sorts.now i 0)) =
    subst (λ b. IsBareIn s (tree_of b) (kind (get_or c.args.sorts.now i 0))) c.index-terms-i-in-loop-i.is
    (subst (IsBareIn s (tree_of c.index-terms-i-in-loop-i.result)) same c.kind.ensures.value) in
    subst (λ n. AreBareIn s (trees_of (map tree_of (take n c.args.terms.now))) (map kind (take n c.args.sorts.now))) (sym (add-one i))
    (bare_more s kind c.args.terms.now c.args.sorts.now i _ 0 c.loop-i-test.true (omega arith) c.loop-i.invariant one)

pub are_bare-returns-then-terms-sorts : goal.are_bare-returns-then-terms-sorts
are_bare-returns-then-terms-sorts t c = (
  λ h. absurd (search rules),
  λ h.
      let e : length c.args.terms.now ≡ length c.args.sorts.now = as_many (terms_over c.args.sig.now) (kind_of c.args.sig.now.hierarchy) c.args.terms.now c.args.sorts.now h in
      absurd (search rules),
)

pub are_bare-returns-then-not-is_bare : goal.are_bare-returns-then-not-is_bare
are_bare-returns-then-not-is_bare t c = (
  λ h. absurd (search rules),
  λ h.
      let s = terms_over c.args.sig.now in
      let kind = kind_of c.args.sig.now.hierarchy in
      let i = c.loop-i.i in
      let one : IsBareIn s (tree_of c.index-terms-i.result) (kind (get_or c.args.sorts.now i 0)) =
      subst (λ b. IsBareIn s (tree_of b) (kind (get_or c.args.sorts.now i 0))) (sym c.index-terms-i.is) (bare_at s kind c.args.terms.now c.args.sorts.now i c.index-terms-i.result 0 c.loop-i-test.true h) in
      let yes = c.is_bare.ensures.1 (kind (get_or c.args.sorts.now i 0), one) in
      absurd (search (rules, tests)),
)

pub are_bare-returns-then-kind-kind_of : goal.are_bare-returns-then-kind-kind_of
are_bare-returns-then-kind-kind_of t c = (
  λ h. absurd (search rules),
  λ h.
      let s = terms_over c.args.sig.now in
      let kind = kind_of c.args.sig.now.hierarchy in
      let i = c.loop-i.i in
      let term = c.index-terms-i-in-loop-i.result in
      let one : IsBareIn s (tree_of term) (kind (get_or c.args.sorts.now i 0)) =
      subst (λ b. IsBareIn s (tree_of b) (kind (get_or c.args.sorts.now i 0))) (sym c.index-terms-i-in-loop-i.is) (bare_at s kind c.args.terms.now c.args.sorts.now i term 0 c.loop-i-test.true h) in
      let same : c.kind.result ≡ kind (get_or c.args.sorts.now i 0) = one_kind s (tree_of term) c.kind.result (kind (get_or c.args.sorts.now i 0)) c.kind.ensures.value one in
      let also : c.kind_of.result ≡ kind (get_or c.args.sorts.now i 0) = c.kind_of.ensures.value ∙ ap (λ q. kind_of q (get_or c.args.sorts.now i 0)) c.poset.ensures.value in
      absurd (c.if-kind-kind_of.true (same ∙ sym also)),
)

pub is_bare-are_bare-requires : goal.is_bare-are_bare-requires
is_bare-are_bare-requires t c =
    let e = bare_node c.args.term.now c.in-App.op _ c.items.result.now c.in-App.is c.items.ensures in
    (omega (arith, depth_of_node c.args.term.now c.in-App.op.0 c.items.result.now e), c.arguments.ensures.sorts)

pub is_bare-returns-else-op-operators : goal.is_bare-returns-else-op-operators
is_bare-returns-else-op-operators t c =
    let s = terms_over c.args.sig.now in
    let f = c.in-App.op.0 in
    let ts = map tree_of c.items.result.now in
    let e = bare_node c.args.term.now c.in-App.op _ c.items.result.now c.in-App.is c.items.ensures in
    let low : 0 < f = omega arith in
    let high : f ≤ length c.args.sig.now.declarations = omega (arith, c.operators.ensures.value) in
    let kinds_are = ap (map (kind_of c.args.sig.now.hierarchy)) c.arguments.ensures.value in (
      λ h. (
        s.result f,
        subst (λ v. IsBareIn s v (s.result f)) (sym e) (
          ap₂ (λ x y. x && y) (lt-ltb 0 f low) (le-leb f (length c.args.sig.now.declarations) high),
          refl,
          subst (AreBareIn s (trees_of ts)) kinds_are (c.are_bare.ensures.0 h),
        ),
      ),
      λ b.
          let node_is = subst (λ v. IsBareIn s v b.0) e b.1 in
          c.are_bare.ensures.1 (subst (AreBareIn s (trees_of ts)) (sym kinds_are) node_is.2),
    )
