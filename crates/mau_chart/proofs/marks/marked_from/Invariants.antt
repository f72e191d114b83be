use Rattle.std.proofs.Common.{◌≤◌}
use Rattle.mau_chart.specs.Places.{IsStretch}
use Rattle.mau_chart.proofs.marks.marked_from.Given as goal

abbrev pub invariant-loop-e : goal.invariant-loop-e
invariant-loop-e l = record {
  earlier : l.e ≤ l.to;
  marked : IsStretch l.full l.e l.to;
}

abbrev pub decreases-loop-e : goal.decreases-loop-e
decreases-loop-e l = l.e
