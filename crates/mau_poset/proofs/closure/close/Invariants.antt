use Rattle.std.proofs.Common.{◌-◌, ◌*◌, ◌^◌, length, sum}
use Rattle.mau_poset.specs.Closure.{HasOnlyChains}
use Rattle.mau_poset.proofs.closure.close.Given as goal

abbrev pub invariant-loop : goal.invariant-loop
invariant-loop l = HasOnlyChains l.pairs l.n l.table

abbrev pub decreases-loop : goal.decreases-loop
decreases-loop l = length l.table * 2 ^ 64 - sum l.table
