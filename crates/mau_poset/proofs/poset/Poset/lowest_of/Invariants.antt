use Rattle.mau_poset.proofs.Least.{IsLowest}
use Rattle.mau_poset.proofs.poset.Poset.lowest_of.Given as goal

abbrev pub invariant-loop-sort : goal.invariant-loop-sort
invariant-loop-sort l = IsLowest l.self l.sorts l.sort-index l.lowest
