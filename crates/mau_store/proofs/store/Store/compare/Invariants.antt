use Rattle.std.proofs.Common.{◌≡◌}
use Rattle.mau_terms.specs.Order.{tree_cmp}
use Rattle.mau_store.specs.Trees.{tree_at}
use Rattle.mau_store.proofs.store.Store.compare.Given as goal

abbrev pub invariant-loop-left : goal.invariant-loop-left
invariant-loop-left l = record {
  same : l.left.0 ≡ l.right.0 → l.fn.a.0 ≡ l.fn.b.0;
  order : tree_cmp (tree_at l.self l.fn.a.0) (tree_at l.self l.fn.b.0) ≡ tree_cmp (tree_at l.self l.left.0) (tree_at l.self l.right.0);
}

-- arguments are older than their node
abbrev pub decreases-loop-left : goal.decreases-loop-left
decreases-loop-left l = l.left.0
