use Rattle.std.proofs.Common.{◌≡◌, ◌+◌}
use Rattle.mau_stratitems.specs.Kept.{reached_by, CanRun}
use Rattle.mau_module.specs.Lawful.{program_of}
use Rattle.mau_session.specs.KeptStrategy.{run_of}
use Rattle.mau_session.proofs.ProgressSolutions.{IsProgressTo}
use Rattle.mau_session.proofs.searching.show_solutions.Given as goal

abbrev pub invariant-loop : goal.invariant-loop
invariant-loop g l =
    let m = g.E.Evaluator.meanings l.fn.search.evaluator in record {
      progress : IsProgressTo l.module m (run_of l.fn.search.run l.fn.search.shown l.vars) l.fn.out.items l.most (reached_by l.search.run) l.counter l.out.items;
      shown : l.search.shown ≡ l.fn.search.shown + l.counter;
      run : CanRun g.L.Lister.asked g.L.Lister.given g.L.Lister.is_for g.L.Lister.with_context (program_of l.module) (g.E.Evaluator.meanings l.search.evaluator)
          (g.E.Evaluator.table l.search.evaluator) l.search.run;
      fits : g.E.Evaluator.fits l.search.evaluator l.search.run.rest.value.store;
      meanings : g.E.Evaluator.meanings l.search.evaluator ≡ m;
    }
