use Rattle.std.proofs.Common.{◌≡◌, ◌≤◌}
use Rattle.mau_store.specs.Node.{Extends}
use Rattle.mau_sorts.specs.Table.{KeepsEntries}
use Rattle.mau_api.specs.Programs.{program_over}
use Rattle.mau_rules.specs.Runs.{stand_of}
use Rattle.mau_rules.specs.Found.{item_of, one_by}
use Rattle.mau_rules.specs.Walk.{IsPath}
use Rattle.mau_rules.proofs.Placed.{LeftFrom, each_place}
use Rattle.mau_rules.proofs.Walked.{places_from}
use Rattle.mau_rules.proofs.one.one_rewrite.Given as goal

abbrev pub invariant-loop : goal.invariant-loop
invariant-loop g l =
    let m = g.E.Evaluator.meanings l.fn.evaluator in
    let P = program_over l.fn.program m.hooks in
    let s = stand_of l.fn.store l.fn.run in
    let I = item_of m (g.W.StepWatcher.wanted l.fn.watcher) in record {
      meanings : g.E.Evaluator.meanings l.evaluator ≡ m;
      fits : g.E.Evaluator.fits l.evaluator l.store;
      extends : Extends l.fn.store l.store;
      kept : KeepsEntries (g.E.Evaluator.table l.fn.evaluator) (g.E.Evaluator.table l.evaluator);
      told : g.W.StepWatcher.told l.watcher ≡ g.W.StepWatcher.told l.fn.watcher;
      falls : l.budget ≤ l.fn.budget;
      wanted : g.W.StepWatcher.wanted l.watcher ≡ g.W.StepWatcher.wanted l.fn.watcher;
      path : IsPath l.store l.fn.run.term.0 l.way.items l.due.0;
      goes_on : LeftFrom I (each_place P I s) (one_by P s) l.fn.budget
          (places_from l.fn.program l.store l.way.items l.due.0) l.budget;
    }
