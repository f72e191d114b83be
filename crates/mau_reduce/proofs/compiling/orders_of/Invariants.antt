use Rattle.std.proofs.Common.{map, take}
use Rattle.mau_reduce.proofs.Ordered.{AreKept}
use Rattle.mau_reduce.proofs.compiling.orders_of.Given as goal

abbrev pub invariant-loop-number : goal.invariant-loop-number
invariant-loop-number l = AreKept l.program (take l.number-index l.number-items) (map (λ list. list.items) l.orders.items)
