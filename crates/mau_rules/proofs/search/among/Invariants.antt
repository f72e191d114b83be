use Rattle.std.proofs.Common.{◌≡◌, ◌≤◌, drop}
use Rattle.mau_terms.specs.Tree.{Tree}
use Rattle.mau_store.specs.Node.{Extends}
use Rattle.mau_store.specs.Trees.{tree_at}
use Rattle.mau_sorts.specs.Table.{KeepsEntries}
use Rattle.mau_evaluation.specs.RuleRuns.{Turns, cyclically}
use Rattle.mau_api.specs.Programs.{program_over}
use Rattle.mau_reduce.specs.ByTop.{top_number}
use Rattle.mau_rules.specs.Found.{item_of, rules_in, turn_at}
use Rattle.mau_rules.specs.ByTop.{rules_under}
use Rattle.mau_rules.proofs.Placed.{LeftFrom, each_rule}
use Rattle.mau_rules.proofs.search.among.Given as goal

abbrev pub invariant-loop-index : goal.invariant-loop-index
invariant-loop-index g l =
    let m = g.E.Evaluator.meanings l.fn.evaluator in
    let P = program_over l.fn.program m.hooks in
    let t = tree_at l.fn.store l.fn.term.0 in
    let I = item_of m (g.W.StepWatcher.wanted l.fn.watcher) in record {
      meanings : g.E.Evaluator.meanings l.evaluator ≡ m;
      fits : g.E.Evaluator.fits l.evaluator l.store;
      extends : Extends l.fn.store l.store;
      kept : KeepsEntries (g.E.Evaluator.table l.fn.evaluator) (g.E.Evaluator.table l.evaluator);
      told : g.W.StepWatcher.told l.watcher ≡ g.W.StepWatcher.told l.fn.watcher;
      falls : l.budget ≤ l.fn.budget;
      wanted : g.W.StepWatcher.wanted l.watcher ≡ g.W.StepWatcher.wanted l.fn.watcher;
      goes_on : (h : Turns) (around : Tree → Tree) → turn_at h t ≡ l.fn.turn →
          LeftFrom I (each_rule P I h (record { term = t; around = around })) (rules_in P h (record { term = t; around = around })) l.fn.budget (drop l.index (cyclically l.first (rules_under l.fn.program (top_number t)))) l.budget;
    }
