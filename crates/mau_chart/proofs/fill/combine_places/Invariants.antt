use Rattle.std.proofs.Common.{◌≡◌, ◌-◌, ◌≤◌, length}
use Rattle.mau_chart.specs.Chart.{Combined, IsAmong}
use Rattle.mau_chart.specs.Marks.{IsMarked}
use Rattle.mau_chart.specs.Table.{table, IsChart}
use Rattle.mau_chart.proofs.fill.combine_places.Given as goal

abbrev pub invariant-loop-z : goal.invariant-loop-z
invariant-loop-z l = record {
  chart : IsChart l.chart;
  rows : length l.chart.rows.items ≡ length l.fn.chart.rows.items;
  combined : Combined l.input.productions.now l.input.leaves.now (table l.fn.chart) (table l.chart) l.at.row l.at.fact l.at.behind (IsAmong l.places l.part l.z);
  mark : (l.mark.row ≡ l.at.row) × (l.mark.item ≡ l.item);
  marked : IsMarked (table l.chart) l.mark;
  within : l.z ≤ length l.places;
}

abbrev pub decreases-loop-z : goal.decreases-loop-z
decreases-loop-z l = length l.places - l.z
