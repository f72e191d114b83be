use Rattle.std.proofs.Common.{ℕ, List, All}
use Rattle.mau_poset.specs.Order.{Leads}
use Rattle.mau_poset.specs.Closure.{HasOnlyChains}
use Rattle.mau_poset.proofs.closure.add_all.Given as goal

abbrev pub invariant-loop-b : goal.invariant-loop-b
invariant-loop-b l = (pairs : List (ℕ × ℕ)) → All (Leads pairs l.a) l.uppers → HasOnlyChains pairs l.n l.initial.table → HasOnlyChains pairs l.n l.table
