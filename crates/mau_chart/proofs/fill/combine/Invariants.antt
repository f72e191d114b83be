use Rattle.std.proofs.Common.{◌≡◌, ◌<◌, length}
use Rattle.mau_chart.specs.Chart.{Combined}
use Rattle.mau_chart.specs.Groups.{IsGrouped}
use Rattle.mau_chart.specs.Marks.{AllMarked}
use Rattle.mau_chart.specs.Table.{table, IsChart}
use Rattle.mau_chart.proofs.fill.combine.Given as goal

abbrev pub invariant-loop-w : goal.invariant-loop-w
invariant-loop-w l = record {
  chart : IsChart l.chart;
  rows : length l.chart.rows.items ≡ length l.fn.chart.rows.items;
  combined : Combined l.input.productions.now l.input.leaves.now (table l.fn.chart) (table l.chart) l.at.row l.at.fact l.at.behind (IsGrouped l.groups l.w);
  some : 0 < length l.marks;
  marked : AllMarked (table l.chart) l.marks;
}
