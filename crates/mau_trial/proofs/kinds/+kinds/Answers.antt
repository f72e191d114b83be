use Rattle.std.proofs.Common.{◌≡◌, ℕ, ◌&&◌, true, All, map, length, take, get_or, add-one, sym, ap, ap₂, ◌∙◌, subst, arith, rules, tests, lt-ltb}
use Rattle.std.proofs.lemmas.Bool.{le-leb}
use Rattle.mau_terms.specs.Tree.{Tree, node, trees_of}
use Rattle.mau_terms.specs.Depth.{depth}
use Rattle.mau_terms.specs.Norm.{norm}
use Rattle.mau_terms.specs.Bare.{IsBare, IsBareIn, AreBareIn}
use Rattle.mau_terms.specs.Reading.{reading}
use Rattle.mau_poset.specs.Order.{kind_of as kind_of_sort}
use Rattle.mau_signature.specs.Signature.{SignatureOf, IsOperator, terms_over, theory_at}
use Rattle.mau_store.specs.Trees.{tree_at, trees_at}
use Rattle.mau_store.specs.View.{numbers}
use Rattle.mau_store.proofs.Depths.{depth-node}
use Rattle.mau_canon.proofs.Standing.{stand_at, arguments_stand_within}
use Rattle.mau_terms.proofs.Taken.{one_kind}
use Rattle.mau_trial.proofs.OfKind.{take_whole, number_depth, all_more, all_at, bare_more, bare_at, as_many, bare_operator, bare_arguments, arguments_bare}
use Rattle.mau_trial.proofs.kinds.+kinds.Goals as goal

has_operator : (s : SignatureOf) (f : ℕ) → IsOperator s f → (terms_over s).has_operator f ≡ true
has_operator s f op = ap₂ (λ x y. x && y) (lt-ltb 0 f op.0) (le-leb f (length s.declarations) op.1)

-- ---- one term

pub is_of_kind-returns-in-Some : goal.is_of_kind-returns-in-Some
is_of_kind-returns-in-Some t c = (
  λ h. let same : c.in-Some.found ≡ c.args.kind = search (rules, tests) in subst (IsBareIn (terms_over c.args.sig.now) (reading (theory_at c.args.sig.now) (tree_at c.args.store.now c.args.id.0))) same c.in-Some.ensures.some,
  λ b.
      let same : c.in-Some.found ≡ c.args.kind = one_kind (terms_over c.args.sig.now) (reading (theory_at c.args.sig.now) (tree_at c.args.store.now c.args.id.0)) c.in-Some.found c.args.kind c.in-Some.ensures.some b in
      search (rules, tests),
)

pub kind_of-are_arguments-requires : goal.kind_of-are_arguments-requires
kind_of-are_arguments-requires t c =
    let ts = trees_at c.args.store.now (numbers c.in-App.args.now) in
    let e : tree_at c.args.store.now c.args.id.0 ≡ node c.in-App.op.0 ts = c.in-App.ensures.tree in (
      omega (arith, ap depth e, depth-node c.in-App.op.0 ts),
      (c.is_operator.ensures.value.0 (search rules), arguments_stand_within (theory_at c.args.sig.now) c.is_operator.ensures.lawful.theories c.args.store.now c.in-App.ensures.nodes c.args.id.0 _ c.in-App.ensures.node c.requires),
    )

pub kind_of-returns-then-not-is_operator-clause-none : goal.kind_of-returns-then-not-is_operator-clause-none
kind_of-returns-then-not-is_operator-clause-none t c = λ b.
    let s = c.args.sig.now in
    let th = theory_at s in
    let e : tree_at c.args.store.now c.args.id.0 ≡ node c.in-App.op.0 (trees_at c.args.store.now (numbers c.in-App.args.now)) = c.in-App.ensures.tree in
    let normal = subst (λ u. norm th u ≡ u) e c.requires.normal in
    let op = c.is_operator.ensures.value.1 (bare_operator s c.is_operator.ensures.lawful c.in-App.op.0 (trees_at c.args.store.now (numbers c.in-App.args.now)) normal (subst (λ u. IsBare (terms_over s) (reading th u)) e b)) in
    absurd (search rules)

pub kind_of-returns-then-not-are_arguments-clause-none : goal.kind_of-returns-then-not-are_arguments-clause-none
kind_of-returns-then-not-are_arguments-clause-none t c = λ b.
    let s = c.args.sig.now in
    let th = theory_at s in
    let e : tree_at c.args.store.now c.args.id.0 ≡ node c.in-App.op.0 (trees_at c.args.store.now (numbers c.in-App.args.now)) = c.in-App.ensures.tree in
    let normal = subst (λ u. norm th u ≡ u) e c.requires.normal in
    let args = c.are_arguments.ensures.1 (bare_arguments s c.is_operator.ensures.lawful c.in-App.op.0 (trees_at c.args.store.now (numbers c.in-App.args.now)) normal (subst (λ u. IsBare (terms_over s) (reading th u)) e b)) in
    absurd (search rules)

pub kind_of-returns-else-not-are_arguments-clause-some : goal.kind_of-returns-else-not-are_arguments-clause-some
kind_of-returns-else-not-are_arguments-clause-some t c =
    let s = c.args.sig.now in
    let th = theory_at s in
    let f = c.in-App.op.0 in
    let ts = trees_at c.args.store.now (numbers c.in-App.args.now) in
    let e : tree_at c.args.store.now c.args.id.0 ≡ node f ts = c.in-App.ensures.tree in
    let normal = subst (λ u. norm th u ≡ u) e c.requires.normal in
    subst (λ u. IsBareIn (terms_over s) (reading th u) c.result_kind.result) (sym e)
    (subst (IsBareIn (terms_over s) (reading th (node f ts))) (sym c.result_kind.ensures.value)
    (arguments_bare s c.is_operator.ensures.lawful f ts normal (has_operator s f (c.is_operator.ensures.value.0 (search rules))) (c.are_arguments.ensures.0 (search rules))))

-- ---- lists

pub are_of_kind-is_of_kind-requires : goal.are_of_kind-is_of_kind-requires
are_of_kind-is_of_kind-requires t c =
    let h = c.loop-id-test.true in
    (omega (arith, number_depth c.args.store.now c.args.ids.now c.loop-id.id-index (record { 0 = 0 }) h), stand_at (theory_at c.args.sig.now) c.args.store.now c.args.ids.now c.loop-id.id-index (record { 0 = 0 }) h c.requires)

pub are_of_kind-loop-id-preserved : goal.are_of_kind-loop-id-preserved
are_of_kind-loop-id-preserved t c =
    let P : Tree → Type 0 = λ u. IsBareIn (terms_over c.args.sig.now) (reading (theory_at c.args.sig.now) u) c.args.kind in
    let i = c.loop-id.id-index in
    subst (λ n. All P (trees_at c.args.store.now (numbers (take n c.args.ids.now)))) (sym (add-one i))
    (all_more c.args.store.now P c.args.ids.now i (record { 0 = 0 }) c.loop-id-test.true c.loop-id.invariant (c.is_of_kind.ensures.0 (search rules)))

pub are_of_kind-returns-then-not-is_of_kind : goal.are_of_kind-returns-then-not-is_of_kind
are_of_kind-returns-then-not-is_of_kind t c =
    let P : Tree → Type 0 = λ u. IsBareIn (terms_over c.args.sig.now) (reading (theory_at c.args.sig.now) u) c.args.kind in (
      λ h. absurd (search rules),
      λ all.
          let one = c.is_of_kind.ensures.1 (all_at c.args.store.now P c.args.ids.now c.loop-id.id-index (record { 0 = 0 }) c.loop-id-test.true all) in
          absurd (search rules),
    )

pub are_of_kind-returns : goal.are_of_kind-returns
are_of_kind-returns t c =
    let P : Tree → Type 0 = λ u. IsBareIn (terms_over c.args.sig.now) (reading (theory_at c.args.sig.now) u) c.args.kind in (
      λ h. subst (λ ids. All P (trees_at c.args.store.now (numbers ids))) (take_whole c.args.ids.now c.loop-id.id-index (omega arith)) c.loop-id.invariant,
      λ all. search rules,
    )

pub are_of_kinds-returns-then-ids-sorts : goal.are_of_kinds-returns-then-ids-sorts
are_of_kinds-returns-then-ids-sorts t c = (
  λ h. absurd (search rules),
  λ all. let e = as_many (terms_over c.args.sig.now) (reading (theory_at c.args.sig.now)) (kind_of_sort c.args.sig.now.hierarchy) c.args.store.now c.args.ids.now c.args.sorts.now all in absurd (search rules),
)

pub are_of_kinds-is_of_kind-requires : goal.are_of_kinds-is_of_kind-requires
are_of_kinds-is_of_kind-requires t c =
    let h = c.loop-i-test.true in
    (omega (arith, number_depth c.args.store.now c.args.ids.now c.loop-i.i (record { 0 = 0 }) h), stand_at (theory_at c.args.sig.now) c.args.store.now c.args.ids.now c.loop-i.i (record { 0 = 0 }) h c.requires.ids)

pub are_of_kinds-loop-i-preserved : goal.are_of_kinds-loop-i-preserved
are_of_kinds-loop-i-preserved t c =
    let s = terms_over c.args.sig.now in
    let kind = kind_of_sort c.args.sig.now.hierarchy in
    let i = c.loop-i.i in
    let R = reading (theory_at c.args.sig.now) in
    let same : c.kind_of-kind.result ≡ kind (get_or c.args.sorts.now i 0) = c.kind_of-kind.ensures.value ∙ ap (λ h. kind_of_sort h (get_or c.args.sorts.now i 0)) c.poset.ensures.value in
    let one : IsBareIn s (R (tree_at c.args.store.now (get_or c.args.ids.now i (record { 0 = 0 })).0)) (kind (get_or c.args.sorts.now i 0)) =
    subst (IsBareIn s (R (tree_at c.args.store.now (get_or c.args.ids.now i (record { 0 = 0 })).0))) same (c.is_of_kind.ensures.0 (search rules)) in
    subst (λ n. AreBareIn s (trees_of (map R (trees_at c.args.store.now (numbers (take n c.args.ids.now))))) (map kind (take n c.args.sorts.now))) (sym (add-one i))
    (bare_more s R kind c.args.store.now c.args.ids.now c.args.sorts.now i (record { 0 = 0 }) 0 c.loop-i-test.true (omega arith) c.loop-i.invariant one)

pub are_of_kinds-returns-then-not-is_of_kind : goal.are_of_kinds-returns-then-not-is_of_kind
are_of_kinds-returns-then-not-is_of_kind t c =
    let s = terms_over c.args.sig.now in
    let kind = kind_of_sort c.args.sig.now.hierarchy in
    let i = c.loop-i.i in
    let R = reading (theory_at c.args.sig.now) in
    let same : c.kind_of-kind.result ≡ kind (get_or c.args.sorts.now i 0) = c.kind_of-kind.ensures.value ∙ ap (λ h. kind_of_sort h (get_or c.args.sorts.now i 0)) c.poset.ensures.value in (
      λ h. absurd (search rules),
      λ all.
          let one = c.is_of_kind.ensures.1 (subst (IsBareIn s (R (tree_at c.args.store.now (get_or c.args.ids.now i (record { 0 = 0 })).0))) (sym same) (bare_at s R kind c.args.store.now c.args.ids.now c.args.sorts.now i (record { 0 = 0 }) 0 c.loop-i-test.true all)) in
          absurd (search rules),
    )

pub are_of_kinds-returns : goal.are_of_kinds-returns
are_of_kinds-returns t c =
    let s = terms_over c.args.sig.now in
    let kind = kind_of_sort c.args.sig.now.hierarchy in
    let R = reading (theory_at c.args.sig.now) in (
      λ h.
          subst (λ ids. AreBareIn s (trees_of (map R (trees_at c.args.store.now (numbers ids)))) (map kind c.args.sorts.now)) (take_whole c.args.ids.now c.loop-i.i (omega arith))
          (subst (λ ss. AreBareIn s (trees_of (map R (trees_at c.args.store.now (numbers (take c.loop-i.i c.args.ids.now))))) (map kind ss)) (take_whole c.args.sorts.now c.loop-i.i (omega arith)) c.loop-i.invariant),
      λ all. search rules,
    )
