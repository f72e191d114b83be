use Rattle.mau_chart.specs.Table.{table}
use Rattle.mau_chart.proofs.Scan.{scanned_exact}
use Rattle.mau_chart.proofs.reading.answer_of.Goals as goal

pub returns-clause-exact : goal.returns-clause-exact
returns-clause-exact c = scanned_exact c.args.productions.now c.args.leaves.now c.args.n c.args.low c.args.high c.requires.leaves c.requires.forms (table c.fill.new.chart) c.in_ok-fill.ensures.sound c.in_ok-fill.ensures.closed c.scan-answer.result c.scan-answer.ensures
