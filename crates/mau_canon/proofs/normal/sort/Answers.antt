use Rattle.std.proofs.Common.{length, rules, ◌<◌}
use Rattle.std.proofs.lemmas.Fn.{always_returns_same}
use Rattle.std.proofs.lemmas.List.Sorted.{All-permutation, IsPermutation-map}
use Rattle.mau_store.proofs.SortedIds.{comes_before, comes_before_is_order, trees_at-sorted}
use Rattle.mau_canon.proofs.normal.sort.Goals as goal

pub returns-clause-sorted : goal.returns-clause-sorted
returns-clause-sorted c =
    let nodes = c.args.store.now in
    trees_at-sorted nodes _ _ c.sort_by.ensures.permutation
    (c.in_ok-sort_by.ensures.sorted (comes_before nodes) (comes_before_is_order nodes)
    (always_returns_same _ _ _ (λ a r f' k. search rules)))

pub returns-clause-there : goal.returns-clause-there
returns-clause-there c h =
    All-permutation (λ i. i < length c.args.store.now) _ _ (IsPermutation-map (λ id. id.0) _ _ c.sort_by.ensures.permutation) h
