use Rattle.std.proofs.Common.{take, All}
use Rattle.mau_poset.specs.Order.{IsAtOrBelow}
use Rattle.mau_poset.proofs.poset.Poset.is_below_all.Given as goal

abbrev pub invariant-loop-sort : goal.invariant-loop-sort
invariant-loop-sort l = All (IsAtOrBelow l.self l.a) (take l.sort-index l.sorts)
