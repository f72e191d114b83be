use Rattle.std.proofs.Common.{◌≡◌, ◌≤◌, length, map, All}
use Rattle.mau_terms.specs.Subst.{instance}
use Rattle.mau_store.specs.Node.{Extends}
use Rattle.mau_store.specs.Trees.{trees_at}
use Rattle.mau_store.specs.View.{numbers}
use Rattle.mau_sorts.specs.Table.{KeepsEntries}
use Rattle.mau_evaluation.specs.Evaluation.{look_up}
use Rattle.mau_evaluation.specs.Engine.{engine_of}
use Rattle.mau_api.specs.Programs.{program_over}
use Rattle.mau_api.specs.Answers.{binding_in}
use Rattle.mau_leaves.specs.Steps.{Passes, Throughout}
use Rattle.mau_leaves.specs.InTurn.{IsEvaluated, left_of_values}
use Rattle.mau_leaves.proofs.values.next_values.Given as goal

abbrev pub invariant-loop-index : goal.invariant-loop-index
invariant-loop-index g l =
    let m = g.E.Evaluator.meanings l.fn.evaluator in
    let p = l.fn.program in
    let ts = map (instance (look_up (binding_in l.fn.store l.fn.bound))) (map g.T.HasTerm.tree_in l.fn.terms) in record {
      passed : Throughout (engine_of (program_over p m.hooks)) (left_of_values (program_over p m.hooks) ts (trees_at l.fn.store (numbers l.fn.done.items))) (λ L.
          Passes (left_of_values (program_over p m.hooks) ts (trees_at l.fn.store (numbers l.fn.done.items)) L) (left_of_values (program_over p m.hooks) ts (trees_at l.store (numbers l.done.items)) L));
      done : All (IsEvaluated p.sig l.store (g.E.Evaluator.table l.evaluator)) l.done.items;
      count : length l.done.items ≡ l.index;
      within : l.index ≤ length l.fn.terms;
      meanings : g.E.Evaluator.meanings l.evaluator ≡ m;
      fits : g.E.Evaluator.fits l.evaluator l.store;
      extends : Extends l.fn.store l.store;
      kept : KeepsEntries (g.E.Evaluator.table l.fn.evaluator) (g.E.Evaluator.table l.evaluator);
    }
