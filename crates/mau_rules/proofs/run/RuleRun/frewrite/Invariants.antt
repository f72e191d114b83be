use Rattle.std.proofs.Common.{◌≡◌, map}
use Rattle.mau_store.specs.Node.{Extends}
use Rattle.mau_sorts.specs.Table.{KeepsEntries}
use Rattle.mau_api.specs.Programs.{program_over}
use Rattle.mau_rules.specs.Runs.{stand_of, IsRunOf, frewriting_by}
use Rattle.mau_rules.specs.Found.{item_of}
use Rattle.mau_rules.specs.ByTop.{AreRulesByTop}
use Rattle.mau_rules.specs.Counted.{IsCounted}
use Rattle.mau_rules.specs.Passes.{passing_by}
use Rattle.mau_store.specs.Trees.{tree_at}
use Rattle.mau_rules.proofs.Parts.{IsPartSo}
use Rattle.mau_rules.proofs.run.RuleRun.frewrite.Given as goal

abbrev pub invariant-loop : goal.invariant-loop
invariant-loop g l =
    let m = g.E.Evaluator.meanings l.fn.evaluator in
    let p = l.fn.program in record {
      meanings : g.E.Evaluator.meanings l.evaluator ≡ m;
      fits : g.E.Evaluator.fits l.evaluator l.store;
      extends : Extends l.fn.store l.store;
      kept : KeepsEntries (g.E.Evaluator.table l.fn.evaluator) (g.E.Evaluator.table l.evaluator);
      wanted : g.W.StepWatcher.wanted l.watcher ≡ g.W.StepWatcher.wanted l.fn.watcher;
      gas : l.tally.gas ≡ l.fn.gas;
      by_top : AreRulesByTop p (map (λ list. list.items) l.tally.by_top.orders.items);
      run : IsRunOf p l.store l.self;
      told : IsPartSo p m.hooks (g.W.StepWatcher.wanted l.fn.watcher) l.store (g.E.Evaluator.table l.evaluator) (g.W.StepWatcher.told l.fn.watcher) (g.W.StepWatcher.told l.watcher)
          (tree_at l.fn.store l.fn.self.term.0) (tree_at l.store l.self.term.0) 0 l.tally.rewrites;
      known : IsCounted (item_of m (g.W.StepWatcher.wanted l.fn.watcher)) (frewriting_by p m l.fn.gas l.fn.bound (stand_of l.fn.store l.fn.self)) l.fn.budget l.tally.rewrites
          (passing_by (program_over p m.hooks) l.fn.gas l.tally.left (stand_of l.store l.self)) l.left;
    }
