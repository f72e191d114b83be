use Rattle.std.proofs.Common.{◌≡◌, ◌∙◌, sym, ap, subst}
use Rattle.mau_terms.specs.Order.{sort_trees}
use Rattle.mau_terms.proofs.Sorting.{sort-sort}
use Rattle.mau_signature.specs.Signature.{theory_at}
use Rattle.mau_store.specs.Trees.{trees_at}
use Rattle.mau_store.specs.View.{numbers}
use Rattle.mau_canon.specs.Standing.{StandsWithin, StandWithin}
use Rattle.mau_canon.proofs.Standing.{stand_there}
use Rattle.mau_terms.proofs.Outcomes.{IfOk-then}
use Rattle.mau_lists.specs.Lists.{IsSubList, IsNextOrEnd}
use Rattle.mau_lists.specs.Terms.{IsBefore}
use Rattle.mau_domains.specs.Lists.{IsLong}
use Rattle.mau_domains.specs.Stored.{list_in}
use Rattle.mau_domains.proofs.Adding.{IfSome-then, all_of_sub_list}
use Rattle.mau_domains.proofs.ReachIds.{all_permuted}
use Rattle.mau_domains.proofs.long.next_long_multiset.Goals as goal

pub next_long_sub_list-requires-clause-items : goal.next_long_sub_list-requires-clause-items
next_long_sub_list-requires-clause-items c =
    let th = theory_at c.args.sig.now in
    let nodes = c.args.store.now in
    stand_there th nodes (numbers c.deref.result.now)
    (subst (λ w. StandWithin th nodes (numbers w)) (sym c.deref.ensures.value) (all_permuted (StandsWithin th nodes) c.args.items.now c.in_ok-items.items.items c.in_ok-items.ensures.same c.requires.items))

pub next_long_sub_list-requires-clause-sorted : goal.next_long_sub_list-requires-clause-sorted
next_long_sub_list-requires-clause-sorted c =
    let nodes = c.args.store.now in
    let us = trees_at nodes (numbers c.args.items.now) in
    let e : trees_at nodes (numbers c.deref.result.now) ≡ sort_trees us = ap (λ w. trees_at nodes (numbers w)) c.deref.ensures.value ∙ c.in_ok-items.ensures.sorted in
    ap sort_trees e ∙ sort-sort us ∙ sym e

pub returns-clause-next : goal.returns-clause-next
returns-clause-next c =
    let nodes = c.args.store.now in
    let us = trees_at nodes (numbers c.args.items.now) in
    let e : trees_at nodes (numbers c.deref.result.now) ≡ sort_trees us = ap (λ w. trees_at nodes (numbers w)) c.deref.ensures.value ∙ c.in_ok-items.ensures.sorted in
    IfOk-then _ _
    (λ list h. subst (λ ys. IsNextOrEnd IsBefore (IsLong (λ xs. IsSubList xs ys)) (trees_at nodes (numbers c.args.last.now)) (list_in nodes list)) e h)
    c.next_long_sub_list.result c.next_long_sub_list.ensures.next

pub returns-clause-stand : goal.returns-clause-stand
returns-clause-stand c =
    let th = theory_at c.args.sig.now in
    let nodes = c.args.store.now in
    let stand = subst (λ w. StandWithin th nodes (numbers w)) (sym c.deref.ensures.value) (all_permuted (StandsWithin th nodes) c.args.items.now c.in_ok-items.items.items c.in_ok-items.ensures.same c.requires.items) in
    IfOk-then _ _
    (λ list h. IfSome-then _ _ (λ v i. all_of_sub_list (StandsWithin th nodes) (numbers v.items) (numbers c.deref.result.now) i stand) list h)
    c.next_long_sub_list.result c.next_long_sub_list.ensures.part
