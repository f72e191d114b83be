use Rattle.std.proofs.Common.{◌≡◌, drop}
use Rattle.mau_terms.specs.Solution.{list_cmp}
use Rattle.mau_store.specs.Trees.{trees_at}
use Rattle.mau_store.specs.View.{numbers}
use Rattle.mau_listing.proofs.order.compare_lists.Given as goal

abbrev pub invariant-loop-i : goal.invariant-loop-i
invariant-loop-i l =
    list_cmp (trees_at l.store (numbers l.first)) (trees_at l.store (numbers l.second))
    ≡ list_cmp (trees_at l.store (numbers (drop l.i l.first))) (trees_at l.store (numbers (drop l.i l.second)))
