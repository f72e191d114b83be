use Rattle.std.proofs.Common.{◌≡◌, List, inl, inr, IfSome, Some, sym, ◌∙◌, ap, subst}
use Rattle.std.proofs.lemmas.Result.{IfOk-weaker}
use Rattle.mau_terms.specs.Order.{sort_trees}
use Rattle.mau_terms.specs.Solution.{list_under, value_key}
use Rattle.mau_terms.specs.declared.ids.TermId.{TermId}
use Rattle.mau_terms.proofs.Sorting.{sort-sort}
use Rattle.mau_signature.specs.Signature.{theory_at}
use Rattle.mau_store.specs.Trees.{tree_at, trees_at}
use Rattle.mau_store.specs.View.{numbers}
use Rattle.mau_store.proofs.Standing.{tree_at-extends}
use Rattle.mau_canon.specs.Standing.{StandsWithin, StandWithin}
use Rattle.mau_domains.proofs.ReachIds.{all_permuted}
use Rattle.mau_match.specs.Skipped.{IsFar, IsFurther}
use Rattle.mau_match.proofs.Skipping.{passed_same, passed_by}
use Rattle.mau_match.proofs.skip.passed_list.Goals as goal

pub far_list-requires-clause-items : goal.far_list-requires-clause-items
far_list-requires-clause-items c =
    let th = theory_at c.args.sig.now in
    let nodes = c.args.store.now in
    subst (λ w. StandWithin th nodes (numbers w)) (sym c.deref.ensures.value) (all_permuted (StandsWithin th nodes) c.args.items.now c.in_ok-items.items.items c.in_ok-items.ensures.same c.requires.items)

pub far_list-requires-clause-sorted : goal.far_list-requires-clause-sorted
far_list-requires-clause-sorted c =
    let nodes = c.args.store.now in
    let us = trees_at nodes (numbers c.args.items.now) in
    let e : trees_at nodes (numbers c.deref.result.now) ≡ sort_trees us = ap (λ w. trees_at nodes (numbers w)) c.deref.ensures.value ∙ c.in_ok-items.ensures.sorted in
    ap sort_trees e ∙ sort-sort us ∙ sym e

pub returns-in-Some-clause-passed : goal.returns-in-Some-clause-passed
returns-in-Some-clause-passed c =
    let th = theory_at c.args.sig.now in
    let f = c.args.op.0 in
    let nodes = c.args.store.now in
    let new = c.value_over.new.store in
    let us = trees_at nodes (numbers c.args.items.now) in
    let v = tree_at nodes c.args.value.0 in
    let list = trees_at nodes (numbers c.deref-2.result.now) in
    let ys = trees_at nodes (numbers c.deref.result.now) in
    let e : ys ≡ sort_trees us = ap (λ w. trees_at nodes (numbers w)) c.deref.ensures.value ∙ c.in_ok-items.ensures.sorted in
    let far : IsFar ys list c.args.least (trees_at nodes (numbers c.in-Some.far.items)) =
    subst (λ o. IfSome o (λ far. IsFar ys list c.args.least (trees_at nodes (numbers far.items)))) c.in-Some.is c.in_ok-far.ensures.far in
    let key : value_key th (Some f) v ≡ list = ap (list_under (th f) f) c.requires.value.normal ∙ sym c.list_of.ensures.list ∙ ap (λ w. trees_at nodes (numbers w)) (sym (c.deref-2.ensures.value ∙ c.in_ok-list.ensures)) in
    IfOk-weaker c.value_over.result _ _
    (λ id over.
    elim over [
      | inl same ↦ passed_same th f (sort_trees us) c.args.least v (tree_at new id.0) (sym (ap (λ (i : TermId). tree_at new i.0) same ∙ tree_at-extends nodes new c.args.value.0 c.value_over.ensures.extends c.requires.value.there))
      | inr k ↦
          passed_by th f (sort_trees us) c.args.least v (tree_at new id.0) list (trees_at nodes (numbers c.in-Some.far.items)) key (subst (λ w. IsFar w list c.args.least (trees_at nodes (numbers c.in-Some.far.items))) e far)
          (subst (λ (l : List TermId). IsFurther th f v (trees_at nodes (numbers l)) (tree_at new id.0)) c.deref-in-Some.ensures.value k)
    ])
    c.value_over.ensures.over
