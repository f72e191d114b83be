use Rattle.mau_chart.specs.Places.{IsStretch}
use Rattle.mau_chart.proofs.marks.marked_to.Given as goal

abbrev pub invariant-loop-e : goal.invariant-loop-e
invariant-loop-e l = IsStretch l.full l.from l.e
