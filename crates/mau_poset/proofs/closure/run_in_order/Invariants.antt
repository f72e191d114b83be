use Rattle.std.proofs.Common.{ℕ, List}
use Rattle.mau_poset.specs.Graph.{AreUppers}
use Rattle.mau_poset.specs.Closure.{HasOnlyChains}
use Rattle.mau_poset.proofs.closure.run_in_order.Given as goal

abbrev pub invariant-loop-a : goal.invariant-loop-a
invariant-loop-a l = (pairs : List (ℕ × ℕ)) → AreUppers pairs l.uppers → HasOnlyChains pairs l.n l.initial.table → HasOnlyChains pairs l.n l.table
