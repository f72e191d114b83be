use Rattle.std.proofs.Common.{ℕ, ◌<◌}
use Rattle.mau_store.specs.Trees.{tree_at}
use Rattle.mau_signature.specs.OverSignature.{IsTreeOver}
use Rattle.mau_sorts.proofs.ready.are_terms.Given as goal

abbrev pub invariant-loop-i : goal.invariant-loop-i
invariant-loop-i l = (j : ℕ) → j < l.i → IsTreeOver l.sig (tree_at l.store j)
