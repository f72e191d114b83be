use Rattle.std.proofs.Common.{◌≡◌, ◌≤◌, take}
use Rattle.mau_store.specs.Trees.{tree_at, trees_at}
use Rattle.mau_store.specs.View.{numbers}
use Rattle.mau_match.specs.Parts.{how_many}
use Rattle.mau_match.proofs.steps.count_of.Given as goal

-- so many of the items so far
abbrev pub invariant-loop-item : goal.invariant-loop-item
invariant-loop-item l = record {
  same : l.count ≡ how_many (tree_at l.store l.term.0) (trees_at l.store (numbers (take l.item-index l.items)));
  room : l.count ≤ l.item-index;
}
