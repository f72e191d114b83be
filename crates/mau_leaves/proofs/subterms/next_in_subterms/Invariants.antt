use Rattle.std.proofs.Common.{◌≡◌}
use Rattle.mau_store.specs.Node.{Extends}
use Rattle.mau_sorts.specs.Table.{KeepsEntries}
use Rattle.mau_evaluation.specs.Engine.{engine_of}
use Rattle.mau_api.specs.Programs.{program_over}
use Rattle.mau_leaves.specs.Steps.{Passes, Throughout}
use Rattle.mau_leaves.specs.Subterms.{left_of_subterms, IsSubtermSearch}
use Rattle.mau_leaves.proofs.subterms.next_in_subterms.Given as goal

abbrev pub invariant-loop : goal.invariant-loop
invariant-loop g l =
    let m = g.E.Evaluator.meanings l.fn.evaluator in
    let p = l.fn.program in
    let rule = l.fn.rule in record {
      passed : Throughout (engine_of (program_over p m.hooks)) (left_of_subterms g.L.Lister.asked g.L.Lister.given p m.hooks rule l.fn.store l.fn.search) (λ L.
          Passes (left_of_subterms g.L.Lister.asked g.L.Lister.given p m.hooks rule l.fn.store l.fn.search L) (left_of_subterms g.L.Lister.asked g.L.Lister.given p m.hooks rule l.store l.search L));
      subterms : IsSubtermSearch g.L.Lister.asked g.L.Lister.given g.L.Lister.is_for g.L.Lister.with_context p m rule l.store (g.E.Evaluator.table l.evaluator) l.search;
      meanings : g.E.Evaluator.meanings l.evaluator ≡ m;
      fits : g.E.Evaluator.fits l.evaluator l.store;
      extends : Extends l.fn.store l.store;
      kept : KeepsEntries (g.E.Evaluator.table l.fn.evaluator) (g.E.Evaluator.table l.evaluator);
    }
