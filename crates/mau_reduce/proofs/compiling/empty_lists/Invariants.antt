use Rattle.std.proofs.Common.{map}
use Rattle.mau_reduce.specs.ByTop.{AreEmpty}
use Rattle.mau_reduce.proofs.compiling.empty_lists.Given as goal

abbrev pub invariant-loop : goal.invariant-loop
invariant-loop l = AreEmpty l.counter (map (λ list. list.items) l.lists.items)
