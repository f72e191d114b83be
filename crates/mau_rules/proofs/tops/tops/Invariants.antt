use Rattle.std.proofs.Common.{◌≡◌, ◌≤◌, ◌-◌, ℕ}
use Rattle.mau_store.specs.Node.{Extends}
use Rattle.mau_store.specs.Trees.{tree_at}
use Rattle.mau_sorts.specs.Table.{KeepsEntries}
use Rattle.mau_evaluation.specs.Run.{Run}
use Rattle.mau_evaluation.specs.RuleRuns.{PassEnd}
use Rattle.mau_api.specs.Terms.{IsTerm}
use Rattle.mau_api.specs.Programs.{program_over}
use Rattle.mau_api.specs.Answers.{AreSettled}
use Rattle.mau_rules.specs.Runs.{turns_of, IsRunOf}
use Rattle.mau_rules.specs.Found.{item_of}
use Rattle.mau_rules.specs.Counted.{IsCounted}
use Rattle.mau_rules.specs.Passes.{Onward, tops_by, pass_with}
use Rattle.mau_rules.proofs.Parts.{IsPartSo}
use Rattle.mau_rules.proofs.tops.tops.Given as goal

abbrev pub invariant-loop : goal.invariant-loop
invariant-loop g l =
    let m = g.E.Evaluator.meanings l.fn.evaluator in
    let w = g.W.StepWatcher.wanted l.fn.watcher in
    let p = l.fn.program in
    let P = program_over p m.hooks in record {
      meanings : g.E.Evaluator.meanings l.evaluator ≡ m;
      fits : g.E.Evaluator.fits l.evaluator l.store;
      extends : Extends l.fn.store l.store;
      kept : KeepsEntries (g.E.Evaluator.table l.fn.evaluator) (g.E.Evaluator.table l.evaluator);
      wanted : g.W.StepWatcher.wanted l.watcher ≡ w;
      falls : l.budget ≤ l.fn.budget;
      gas : l.tally.gas ≡ l.fn.tally.gas;
      by_top : l.tally.by_top ≡ l.fn.tally.by_top;
      run : IsRunOf p l.store l.run;
      term : IsTerm p.sig l.store l.reached.0;
      settled : AreSettled p.sig l.store (g.E.Evaluator.table l.evaluator) (tree_at l.store l.reached.0);
      told : IsPartSo p m.hooks w l.store (g.E.Evaluator.table l.evaluator) (g.W.StepWatcher.told l.fn.watcher) (g.W.StepWatcher.told l.watcher) (tree_at l.fn.store l.fn.term.0) (tree_at l.store l.reached.0) l.fn.tally.rewrites l.tally.rewrites;
      known : (f : ℕ → ℕ → Run PassEnd) (b0 : ℕ) (K : Onward) →
          IsCounted (item_of m w) f b0 l.fn.tally.rewrites (tops_by P l.fn.tally.gas (pass_with (tree_at l.fn.store l.fn.term.0) (turns_of l.fn.run.turns.items) l.fn.tally) K) l.fn.budget →
          IsCounted (item_of m w) f b0 l.tally.rewrites (tops_by P (l.fn.tally.gas - l.counter) (pass_with (tree_at l.store l.reached.0) (turns_of l.run.turns.items) l.tally) K) l.budget;
    }
