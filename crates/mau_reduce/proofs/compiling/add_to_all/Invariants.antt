use Rattle.std.proofs.Common.{map}
use Rattle.mau_reduce.proofs.Ordered.{AreAdded}
use Rattle.mau_reduce.proofs.compiling.add_to_all.Given as goal

abbrev pub invariant-loop-top : goal.invariant-loop-top
invariant-loop-top l = AreAdded l.number l.top (map (λ list. list.items) l.fn.orders.items) (map (λ list. list.items) l.orders.items)
