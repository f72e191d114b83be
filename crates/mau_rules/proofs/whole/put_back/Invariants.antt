use Rattle.std.proofs.Common.{◌≡◌, ◌≤◌, length, map, take, ℕ}
use Rattle.mau_terms.specs.Norm.{norm}
use Rattle.mau_signature.specs.Signature.{theory_at}
use Rattle.mau_store.specs.Node.{Extends}
use Rattle.mau_store.specs.Trees.{tree_at}
use Rattle.mau_rules.specs.Walk.{opened, around_all, IsWalk, MayReplace}
use Rattle.mau_rules.proofs.whole.put_back.Given as goal

abbrev pub invariant-loop-count : goal.invariant-loop-count
invariant-loop-count l = record {
  low : l.count ≤ length l.way;
  extends : Extends l.fn.store l.store;
  stands : (root : ℕ) × (child : ℕ) × IsWalk l.sig l.store root (take l.count l.way) child × MayReplace l.sig l.store child l.whole.0;
  value : norm (theory_at l.sig) (around_all (λ v. v) (map (opened l.store) (take l.count l.way)) (tree_at l.store l.whole.0))
      ≡ norm (theory_at l.sig) (around_all (λ v. v) (map (opened l.fn.store) l.way) (tree_at l.fn.store l.fn.term.0));
}

abbrev pub decreases-loop-count : goal.decreases-loop-count
decreases-loop-count l = l.count
