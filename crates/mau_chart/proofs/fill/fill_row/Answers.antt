use Rattle.mau_chart.specs.Table.{table}
use Rattle.mau_chart.proofs.Grows.{grows_on}
use Rattle.mau_chart.proofs.Grouped.{indexed_stays}
use Rattle.mau_chart.proofs.Rows.{row_full}
use Rattle.mau_chart.proofs.fill.fill_row.Goals as goal

pub returns-clause-full : goal.returns-clause-full
returns-clause-full c = row_full c.args.input.productions.now c.args.input.leaves.now (table c.args.chart.now) (table c.begin.new.chart) (table c.finish.new.chart) (table c.saturate.new.chart) c.args.i c.in_ok-begin.ensures.begun c.in_ok-finish.ensures.ended c.in_ok-saturate.ensures.grows c.in_ok-saturate.ensures.done

pub saturate-requires-clause-index : goal.saturate-requires-clause-index
saturate-requires-clause-index c =
    indexed_stays (table c.args.chart.now) (table c.finish.new.chart) c.args.n c.args.i c.args.index.now
    (grows_on (table c.args.chart.now) (table c.begin.new.chart) (table c.finish.new.chart) c.args.i c.in_ok-begin.ensures.begun.grows c.in_ok-finish.ensures.ended.grows)
    c.requires.index
