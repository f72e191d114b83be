use Rattle.std.proofs.Common.{◌≡◌, ◌+◌, ◌-◌, ℕ, suc, length, Some, slice_get}
use Rattle.mau_resting.proofs.levels.put.Given as goal

abbrev pub invariant-loop-levels : goal.invariant-loop-levels
invariant-loop-levels l = (i n : ℕ) → slice_get l.levels.items i ≡ Some (suc n) → slice_get l.initial.levels.items i ≡ Some (suc n)

abbrev pub decreases-loop-levels : goal.decreases-loop-levels
decreases-loop-levels l = l.place + 1 - length l.levels.items
