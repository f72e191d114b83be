use Rattle.std.proofs.Common.{◌≡◌, ◌≤◌, ℕ, true, false}
use Rattle.mau_store.specs.Node.{Extends}
use Rattle.mau_store.specs.Trees.{tree_at}
use Rattle.mau_sorts.specs.Table.{KeepsEntries}
use Rattle.mau_evaluation.specs.Run.{Run}
use Rattle.mau_evaluation.specs.RuleRuns.{PassEnd, is_out}
use Rattle.mau_api.specs.Programs.{program_over}
use Rattle.mau_rules.specs.Runs.{turns_of, IsRunOf}
use Rattle.mau_rules.specs.Found.{item_of}
use Rattle.mau_rules.specs.Counted.{IsCounted}
use Rattle.mau_rules.specs.Passes.{IsFrame, IsChain, open_by, behind_pass, pass_with}
use Rattle.mau_rules.proofs.PassWalk.{IsWithin}
use Rattle.mau_rules.specs.Telling.{TellsBehind}
use Rattle.mau_rules.proofs.Parts.{IsPassing}
use Rattle.mau_rules.proofs.passes.pass.Given as goal

abbrev pub invariant-loop : goal.invariant-loop
invariant-loop g l =
    let m = g.E.Evaluator.meanings l.fn.evaluator in
    let w = g.W.StepWatcher.wanted l.fn.watcher in
    let p = l.fn.program in
    let P = program_over p m.hooks in
    let t = tree_at l.fn.store l.fn.run.term.0 in record {
      meanings : g.E.Evaluator.meanings l.evaluator ≡ m;
      fits : g.E.Evaluator.fits l.evaluator l.store;
      extends : Extends l.fn.store l.store;
      kept : KeepsEntries (g.E.Evaluator.table l.fn.evaluator) (g.E.Evaluator.table l.evaluator);
      wanted : g.W.StepWatcher.wanted l.watcher ≡ w;
      falls : l.budget ≤ l.fn.budget;
      gas : l.tally.gas ≡ l.fn.tally.gas;
      by_top : l.tally.by_top ≡ l.fn.tally.by_top;
      run : IsRunOf p l.store l.run;
      frame : IsFrame p.sig l.store l.at;
      chain : (root : ℕ) × IsChain p.sig l.store root l.frames.items l.at.term.0;
      more : is_out l.tally.left ≡ false;
      behind : TellsBehind w (g.W.StepWatcher.told l.fn.watcher) (g.W.StepWatcher.told l.watcher);
      told : w ≡ true → IsPassing p m.hooks l.store (g.E.Evaluator.table l.evaluator) l.fn.run.term l.at l.frames.items (g.W.StepWatcher.told l.fn.watcher) (g.W.StepWatcher.told l.watcher) l.fn.tally.rewrites l.tally.rewrites;
      known : (f : ℕ → ℕ → Run PassEnd) (b0 : ℕ) →
          IsCounted (item_of m w) f b0 l.fn.tally.rewrites (open_by P l.fn.tally.gas (t, 0) (pass_with t (turns_of l.fn.run.turns.items) l.fn.tally) (behind_pass P l.fn.tally.gas)) l.fn.budget →
          IsWithin (item_of m w) f b0 P l.fn.tally.gas l.store l.frames.items l.at (turns_of l.run.turns.items) l.tally (behind_pass P l.fn.tally.gas) l.budget;
    }
