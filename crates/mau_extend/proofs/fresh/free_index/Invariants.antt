use Rattle.std.proofs.Common.{ℕ, ◌<◌, ◌≤◌}
use Rattle.mau_extend.specs.Extended.{IsUnused}
use Rattle.mau_extend.proofs.fresh.free_index.Given as goal

abbrev pub invariant-loop-index : goal.invariant-loop-index
invariant-loop-index l = (k : ℕ) → l.from ≤ k → k < l.index → IsUnused l.places l.bound k → ⊥
