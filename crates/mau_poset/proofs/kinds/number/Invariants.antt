use Rattle.mau_poset.proofs.Numbering.{IsNumbered}
use Rattle.mau_poset.proofs.kinds.number.Given as goal

abbrev pub invariant-loop-a : goal.invariant-loop-a
invariant-loop-a l = IsNumbered l.pairs l.labels l.count l.a
