use Rattle.std.proofs.Common.{◌+◌, ◌≤◌, List, length}
use Rattle.mau_terms.specs.Tree.{Tree}
use Rattle.mau_store.specs.Trees.{trees_at}
use Rattle.mau_store.specs.View.{numbers}
use Rattle.mau_match.specs.Sums.{AreBeside}
use Rattle.mau_match.proofs.sums.least_beside.Given as goal

-- so many stand beside at least, and others may with what is left
abbrev pub invariant-loop : goal.invariant-loop
invariant-loop l = (beside : List Tree) → AreBeside l.counts (trees_at l.store (numbers l.items)) beside → (others : List Tree) × AreBeside l.counts (trees_at l.store (numbers l.rest.items)) others × (l.lacking + length others ≤ length beside)
