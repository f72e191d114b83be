use Rattle.mau_poset.specs.Table.{TakesUp, Grew}
use Rattle.mau_poset.proofs.table.take_up.Given as goal

abbrev pub invariant-loop-k : goal.invariant-loop-k
invariant-loop-k l = TakesUp l.width l.initial.table l.table l.a l.b l.k × Grew l.changed l.initial.table l.table
