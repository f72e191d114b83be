use Rattle.mau_chart.specs.Table.{table}
use Rattle.mau_chart.proofs.Marked.{marked_stays, marked_more}
use Rattle.mau_chart.proofs.fill.try_place.Goals as goal

pub returns-then-is_full-clause-marked : goal.returns-then-is_full-clause-marked
returns-then-is_full-clause-marked c =
    let t = table c.args.chart.now in
    let n = table c.try_part.new.chart in
    marked_more n c.args.at.row c.args.item c.args.place.end c.args.mark.now c.set.new.self c.requires.mark.0 c.requires.mark.1 c.set.ensures.row c.set.ensures.item c.set.ensures.full (c.is_full.ensures c.if-is_full.true)
    (marked_stays t n c.args.at.row c.args.mark.now c.in_ok-try_part.ensures.combined.grows c.requires.marked)

pub returns-else-is_full-clause-marked : goal.returns-else-is_full-clause-marked
returns-else-is_full-clause-marked c =
    marked_stays (table c.args.chart.now) (table c.try_part.new.chart) c.args.at.row c.args.mark.now c.in_ok-try_part.ensures.combined.grows c.requires.marked
