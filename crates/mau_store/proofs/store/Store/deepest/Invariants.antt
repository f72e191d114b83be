use Rattle.std.proofs.Common.{◌≡◌, ◌≤◌, take, length}
use Rattle.mau_terms.specs.Depth.{list_depth}
use Rattle.mau_store.specs.View.{numbers}
use Rattle.mau_store.specs.Trees.{trees_at}
use Rattle.mau_store.proofs.store.Store.deepest.Given as goal

abbrev pub invariant-loop-id : goal.invariant-loop-id
invariant-loop-id l = record {
  deepest : l.deepest ≡ list_depth (trees_at l.self (numbers (take l.id-index l.ids)));
  bounded : l.deepest ≤ length l.self;
}
