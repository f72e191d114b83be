use Rattle.std.proofs.Common.{◌≡◌}
use Rattle.mau_store.specs.Node.{Extends}
use Rattle.mau_store.specs.Trees.{tree_at}
use Rattle.mau_sorts.specs.Table.{KeepsEntries}
use Rattle.mau_api.specs.Programs.{program_over}
use Rattle.mau_api.specs.Answers.{AreSettled}
use Rattle.mau_rules.specs.Runs.{stand_of, IsRunOf, rewriting_by}
use Rattle.mau_rules.specs.Found.{item_of}
use Rattle.mau_rules.specs.ByTop.{IsByTop}
use Rattle.mau_rules.proofs.Told.{IsToldSo}
use Rattle.mau_rules.proofs.RunEnds.{IsUnder}
use Rattle.mau_rules.proofs.run.RuleRun.rewrite.Given as goal

abbrev pub invariant-loop : goal.invariant-loop
invariant-loop g l =
    let m = g.E.Evaluator.meanings l.fn.evaluator in
    let p = l.fn.program in record {
      meanings : g.E.Evaluator.meanings l.evaluator ≡ m;
      fits : g.E.Evaluator.fits l.evaluator l.store;
      extends : Extends l.fn.store l.store;
      kept : KeepsEntries (g.E.Evaluator.table l.fn.evaluator) (g.E.Evaluator.table l.evaluator);
      wanted : g.W.StepWatcher.wanted l.watcher ≡ g.W.StepWatcher.wanted l.fn.watcher;
      run : IsRunOf p l.store l.self;
      settled : AreSettled p.sig l.store (g.E.Evaluator.table l.evaluator) (tree_at l.store l.self.term.0);
      by_top : IsByTop p l.store l.by_top;
      told : IsToldSo p m.hooks (g.W.StepWatcher.wanted l.fn.watcher) l.store (g.E.Evaluator.table l.evaluator) (g.W.StepWatcher.told l.fn.watcher) (g.W.StepWatcher.told l.watcher)
          (tree_at l.fn.store l.fn.self.term.0) (tree_at l.store l.self.term.0) l.rewrites;
      under : IsUnder (item_of m (g.W.StepWatcher.wanted l.fn.watcher)) (program_over p m.hooks) (rewriting_by p m l.fn.bound (stand_of l.fn.store l.fn.self)) l.fn.budget l.rewrites l.more (stand_of l.store l.self) l.left;
    }
