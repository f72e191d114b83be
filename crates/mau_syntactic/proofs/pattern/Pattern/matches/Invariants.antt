use Rattle.std.proofs.Common.{drop, reverse}
use Rattle.mau_store.specs.Node.{AreOf}
use Rattle.mau_store.specs.Trees.{tree_at, trees_at}
use Rattle.mau_store.specs.View.{numbers}
use Rattle.mau_syntactic.proofs.Walk.{IsLeft}
use Rattle.mau_syntactic.proofs.pattern.Pattern.matches.Given as goal

abbrev pub invariant-loop-step : goal.invariant-loop-step
invariant-loop-step l = record {
  left : IsLeft l.self (tree_at l.store l.fn.subject.0) (drop l.step-index l.step-items) (reverse (trees_at l.store (numbers l.stack.items))) (trees_at l.store (numbers l.values.items));
  values : AreOf l.store (numbers l.values.items);
  stack : AreOf l.store (numbers l.stack.items);
}
