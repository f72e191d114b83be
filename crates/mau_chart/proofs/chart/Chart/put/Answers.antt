use Rattle.mau_chart.proofs.Cells.{put_row}
use Rattle.mau_chart.proofs.chart.Chart.put.Goals as goal

pub returns-then-at-len-clause-put : goal.returns-then-at-len-clause-put
returns-then-at-len-clause-put c = put_row c.args.self.now.rows.items c.args.i c.index_mut.result.now _ c.args.fact c.requires c.index_mut.ensures.value c.in_ok-push.ensures.items

pub returns-else-at-len-clause-put : goal.returns-else-at-len-clause-put
returns-else-at-len-clause-put c = put_row c.args.self.now.rows.items c.args.i c.index_mut.result.now _ c.args.fact c.requires c.index_mut.ensures.value c.in_ok-push.ensures.items
