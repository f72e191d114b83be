use Rattle.std.proofs.Common.{◌≡◌}
use Rattle.mau_terms.specs.Tree.{Tree}
use Rattle.mau_store.specs.Trees.{tree_at}
use Rattle.mau_rules.specs.Walk.{is_frozen_at, places_behind}
use Rattle.mau_rules.proofs.walk.entered.Given as goal

abbrev pub invariant-loop-place : goal.invariant-loop-place
invariant-loop-place l =
    (around : Tree → Tree) → places_behind (is_frozen_at l.sig) around (tree_at l.store l.fn.at.term.0) l.fn.at.next ≡ places_behind (is_frozen_at l.sig) around (tree_at l.store l.fn.at.term.0) l.place
