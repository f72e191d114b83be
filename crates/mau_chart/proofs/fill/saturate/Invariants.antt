use Rattle.std.proofs.Common.{◌≡◌, ◌<◌, length}
use Rattle.mau_chart.specs.Chart.{Grows, AreSound, IsDone}
use Rattle.mau_chart.specs.Marks.{AllMarked}
use Rattle.mau_chart.specs.Table.{table, IsChart}
use Rattle.mau_chart.proofs.fill.saturate.Given as goal

abbrev pub invariant-loop-k : goal.invariant-loop-k
invariant-loop-k l = record {
  chart : IsChart l.chart;
  rows : length l.chart.rows.items ≡ length l.fn.chart.rows.items;
  grows : Grows (table l.fn.chart) (table l.chart) l.i;
  sound : AreSound l.input.productions.now l.input.leaves.now (table l.chart);
  done : IsDone l.input.productions.now l.input.leaves.now (table l.chart) l.i l.k;
  some : 0 < length l.marks;
  marked : AllMarked (table l.chart) l.marks;
}
