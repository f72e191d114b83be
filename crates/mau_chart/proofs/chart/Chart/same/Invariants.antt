use Rattle.std.proofs.Common.{◌≡◌, take}
use Rattle.mau_chart.specs.Nodes.{trees_at}
use Rattle.mau_chart.proofs.chart.Chart.same.Given as goal

abbrev pub invariant-loop-i : goal.invariant-loop-i
invariant-loop-i l = trees_at l.self.store (take l.i l.ts) ≡ trees_at l.self.store (take l.i l.us)
