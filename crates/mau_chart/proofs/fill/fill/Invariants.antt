use Rattle.std.proofs.Common.{◌≡◌, ◌<◌, ◌+◌, ◌-◌, length}
use Rattle.mau_chart.specs.Chart.{AreSound}
use Rattle.mau_chart.specs.Groups.{AreIndexed}
use Rattle.mau_chart.specs.Marks.{AllMarked}
use Rattle.mau_chart.specs.Table.{table, IsChart}
use Rattle.mau_chart.proofs.Rows.{AreRows}
use Rattle.mau_chart.proofs.fill.fill.Given as goal

abbrev pub invariant-loop-r : goal.invariant-loop-r
invariant-loop-r l = record {
  chart : IsChart l.chart;
  rows : length l.chart.rows.items ≡ l.n + 1;
  sound : AreSound l.productions l.leaves (table l.chart);
  indexed : AreIndexed (table l.chart) l.n (l.n - l.r) l.index.items;
  grouped : length l.index.items ≡ l.r;
  full : AreRows l.productions l.leaves (table l.chart) l.n (l.n + 1 - l.r);
  some : 0 < length l.marks.items;
  marked : AllMarked (table l.chart) l.marks.items;
}
