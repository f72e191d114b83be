use Rattle.std.proofs.Common.{ap, ◌∙◌, rules}
use Rattle.std.proofs.lemmas.Fn.{always_returns_same}
use Rattle.mau_terms.specs.Order.{sort_trees}
use Rattle.mau_store.specs.Trees.{trees_at}
use Rattle.mau_store.specs.View.{numbers}
use Rattle.mau_store.proofs.SortedIds.{comes_before, comes_before_is_order, trees_at-sorted}
use Rattle.mau_match.proofs.skip.sorted.Goals as goal

pub returns-clause-sorted : goal.returns-clause-sorted
returns-clause-sorted c =
    let nodes = c.args.store.now in
    trees_at-sorted nodes _ _ c.sort_by.ensures.permutation
    (c.in_ok-sort_by.ensures.sorted (comes_before nodes) (comes_before_is_order nodes)
    (always_returns_same _ _ _ (λ a r f' k. search rules)))
    ∙ ap (λ w. sort_trees (trees_at nodes (numbers w))) c.in_ok-list.ensures.items
