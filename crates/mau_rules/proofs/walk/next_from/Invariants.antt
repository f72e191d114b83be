use Rattle.std.proofs.Common.{◌≡◌, ◌++◌, length, map, ℕ}
use Rattle.mau_terms.specs.Tree.{Tree}
use Rattle.mau_store.specs.Trees.{tree_at}
use Rattle.mau_rules.specs.Walk.{is_frozen_at, opened, around_all, places_behind, places_left, IsPath}
use Rattle.mau_rules.proofs.walk.next_from.Given as goal

abbrev pub invariant-loop-next : goal.invariant-loop-next
invariant-loop-next l = record {
  path : (root : ℕ) → IsPath l.store root l.fn.way.items l.fn.from.term.0 → IsPath l.store root l.way.items l.top.term.0;
  rest : (around : Tree → Tree) →
      places_behind (is_frozen_at l.sig) (around_all around (map (opened l.store) l.fn.way.items)) (tree_at l.store l.fn.from.term.0) l.fn.from.next ++ places_left (is_frozen_at l.sig) around (map (opened l.store) l.fn.way.items)
      ≡ places_behind (is_frozen_at l.sig) (around_all around (map (opened l.store) l.way.items)) (tree_at l.store l.top.term.0) l.top.next ++ places_left (is_frozen_at l.sig) around (map (opened l.store) l.way.items);
}

abbrev pub decreases-loop-next : goal.decreases-loop-next
decreases-loop-next l = length l.way.items
