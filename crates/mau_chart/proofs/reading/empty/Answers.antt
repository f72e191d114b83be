use Rattle.std.proofs.Common.{◌+◌, ap, ◌∙◌, length}
use Rattle.mau_chart.specs.Table.{cells}
use Rattle.mau_chart.proofs.Cells.{cells_push, length_push}
use Rattle.mau_chart.proofs.reading.empty.Goals as goal

pub loop-preserved : goal.loop-preserved
loop-preserved c = record {
  rows = ap length c.in_ok-push.ensures.items ∙ length_push c.loop.rows.items _ ∙ ap (λ n. n + 1) c.loop.invariant.rows;
  empty = λ i. ap (λ rs. cells rs i) c.in_ok-push.ensures.items ∙ cells_push c.loop.rows.items _ c.new.ensures.items c.loop.invariant.empty i;
}
