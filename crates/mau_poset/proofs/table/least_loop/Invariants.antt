use Rattle.std.proofs.Common.{ℕ, ◌<◌}
use Rattle.mau_poset.specs.Table.{width_of, HasBit}
use Rattle.mau_poset.proofs.table.least_loop.Given as goal

abbrev pub invariant-loop-a : goal.invariant-loop-a
invariant-loop-a l = (b : ℕ) → b < l.a → ¬ HasBit (width_of l.n) l.table b b
