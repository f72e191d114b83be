use Rattle.std.proofs.Common.{◌≡◌, take}
use Rattle.mau_terms.specs.Norm.{all_pieces}
use Rattle.mau_store.specs.Node.{AreOf}
use Rattle.mau_store.specs.Trees.{trees_at}
use Rattle.mau_store.specs.View.{numbers}
use Rattle.mau_canon.proofs.normal.joined.Given as goal

abbrev pub invariant-loop-arg : goal.invariant-loop-arg
invariant-loop-arg l = record {
  list : trees_at l.store (numbers l.items.items) ≡ all_pieces l.theory.assoc l.theory.id l.op.0 (trees_at l.store (numbers (take l.arg-index l.args)));
  there : AreOf l.store (numbers l.items.items);
}
