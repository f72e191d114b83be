use Rattle.std.proofs.Common.{◌≡◌, take}
use Rattle.mau_store.specs.Trees.{tree_at, trees_at}
use Rattle.mau_store.specs.View.{numbers}
use Rattle.mau_match.specs.Sums.{apart}
use Rattle.mau_match.proofs.sums.others.Given as goal

-- the items so far without the term
abbrev pub invariant-loop-item : goal.invariant-loop-item
invariant-loop-item l = trees_at l.store (numbers l.out.items) ≡ apart (tree_at l.store l.term.0) (trees_at l.store (numbers (take l.item-index l.items)))
