use Rattle.std.proofs.Common.{◌≡◌, ℕ, All}
use Rattle.mau_store.specs.Node.{Extends}
use Rattle.mau_store.specs.Trees.{trees_at}
use Rattle.mau_store.specs.View.{numbers}
use Rattle.mau_sorts.specs.Table.{KeepsEntries}
use Rattle.mau_evaluation.specs.Engine.{engine_of}
use Rattle.mau_api.specs.Programs.{program_over}
use Rattle.mau_leaves.specs.Steps.{Passes, Throughout}
use Rattle.mau_leaves.specs.InTurn.{IsEvaluated}
use Rattle.mau_leaves.specs.Calls.{left_of_call, IsCallSearch}
use Rattle.mau_leaves.proofs.bodies.next_body.Given as goal

abbrev pub invariant-loop : goal.invariant-loop
invariant-loop g l =
    let m = g.E.Evaluator.meanings l.fn.evaluator in
    let p = l.fn.program in
    let vs = trees_at l.fn.store (numbers l.fn.values) in record {
      passed : (k : ℕ) → Throughout (engine_of (program_over p m.hooks)) (left_of_call g.L.Lister.asked g.L.Lister.given p m.hooks k l.fn.name vs l.fn.store l.fn.bodies) (λ L.
          Passes (left_of_call g.L.Lister.asked g.L.Lister.given p m.hooks k l.fn.name vs l.fn.store l.fn.bodies L) (left_of_call g.L.Lister.asked g.L.Lister.given p m.hooks k l.fn.name vs l.store l.bodies L));
      search : IsCallSearch g.L.Lister.asked g.L.Lister.given g.L.Lister.is_for g.L.Lister.with_context p m l.store (g.E.Evaluator.table l.evaluator) l.fn.values l.bodies;
      values : All (IsEvaluated p.sig l.store (g.E.Evaluator.table l.evaluator)) l.fn.values;
      same : trees_at l.store (numbers l.fn.values) ≡ vs;
      meanings : g.E.Evaluator.meanings l.evaluator ≡ m;
      fits : g.E.Evaluator.fits l.evaluator l.store;
      extends : Extends l.fn.store l.store;
      kept : KeepsEntries (g.E.Evaluator.table l.fn.evaluator) (g.E.Evaluator.table l.evaluator);
    }
