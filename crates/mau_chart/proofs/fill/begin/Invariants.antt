use Rattle.std.proofs.Common.{◌≡◌, length}
use Rattle.mau_chart.specs.Chart.{Begun}
use Rattle.mau_chart.specs.Table.{table, IsChart}
use Rattle.mau_chart.proofs.fill.begin.Given as goal

abbrev pub invariant-loop-k : goal.invariant-loop-k
invariant-loop-k l = record {
  chart : IsChart l.chart;
  rows : length l.chart.rows.items ≡ length l.fn.chart.rows.items;
  begun : Begun l.input.leaves.now (table l.fn.chart) (table l.chart) l.i l.k;
}
