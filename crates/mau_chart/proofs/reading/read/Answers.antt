use Rattle.mau_chart.specs.Table.{table}
use Rattle.mau_chart.proofs.Told.{exact_there, told_exact}
use Rattle.mau_chart.proofs.reading.read.Goals as goal

pub reading_of-requires-clause-there : goal.reading_of-requires-clause-there
reading_of-requires-clause-there c =
    exact_there c.args.productions.now c.args.leaves.now c.args.n c.args.low c.args.high c.in_ok-chart.chart.store (table c.in_ok-chart.chart) c.in_ok-chart.answer c.in_ok-chart.ensures.exact

pub returns : goal.returns
returns c =
    told_exact c.args.productions.now c.args.leaves.now c.args.n c.args.low c.args.high c.in_ok-chart.chart.store (table c.in_ok-chart.chart) c.in_ok-chart.answer c.in_ok-reading.reading c.in_ok-reading.ensures c.in_ok-chart.ensures.exact
