use Rattle.std.proofs.Common.{◌≡◌, List, true, map, ℕ, vec_len}
use Rattle.mau_terms.specs.declared.ids.TermId.{TermId}
use Rattle.mau_formula.specs.Operator.{Operator}
use Rattle.mau_sorts.specs.Table.{Table}
use Rattle.mau_api.specs.Events.{Event}
use Rattle.mau_terms.specs.Norm.{norm}
use Rattle.mau_signature.specs.Signature.{theory_at}
use Rattle.mau_store.specs.Node.{Extends}
use Rattle.mau_store.specs.Trees.{tree_at}
use Rattle.mau_rules.specs.Walk.{around_all, MayReplace}
use Rattle.mau_rules.specs.Passes.{frame_in, IsChain}
use Rattle.mau_rules.specs.Telling.{TellsBehind, first_term, TellsReached, TellsWithin}
use Rattle.mau_rules.proofs.Parts.{IsClosing}
use Rattle.mau_rules.proofs.frames.close_all.Given as goal

abbrev pub invariant-loop-outer : goal.invariant-loop-outer
invariant-loop-outer g l = record {
  extends : Extends l.fn.store l.store;
  wanted : g.W.StepWatcher.wanted l.watcher ≡ g.W.StepWatcher.wanted l.fn.watcher;
  behind : TellsBehind (g.W.StepWatcher.wanted l.fn.watcher) (g.W.StepWatcher.told l.fn.watcher) (g.W.StepWatcher.told l.watcher);
  told : g.W.StepWatcher.wanted l.fn.watcher ≡ true → (hooks : List Operator) (table : Table) (front : List Event) (root inner : TermId) (n : ℕ) →
      first_term l.fn.frames.items inner ≡ root → IsChain l.program.sig l.fn.store root.0 l.fn.frames.items inner.0 → MayReplace l.program.sig l.fn.store inner.0 l.fn.term.0 →
      TellsWithin l.program hooks l.fn.store table (TellsReached l.program hooks l.fn.store table inner l.fn.term) inner l.fn.frames.items front (g.W.StepWatcher.told l.fn.watcher) n →
      IsClosing l.program hooks l.store table root l.frames.items l.whole front (g.W.StepWatcher.told l.watcher) n;
  stands : (root : ℕ) × (child : ℕ) × IsChain l.program.sig l.store root l.frames.items child × MayReplace l.program.sig l.store child l.whole.0;
  value : norm (theory_at l.program.sig) (around_all (λ v. v) (map (frame_in l.store) l.frames.items) (tree_at l.store l.whole.0))
      ≡ norm (theory_at l.program.sig) (around_all (λ v. v) (map (frame_in l.fn.store) l.fn.frames.items) (tree_at l.fn.store l.fn.term.0));
}

abbrev pub decreases-loop-outer : goal.decreases-loop-outer
decreases-loop-outer g l = vec_len l.frames
