use Rattle.mau_chart.specs.Goal.{Scanned}
use Rattle.mau_chart.specs.Table.{table}
use Rattle.mau_chart.proofs.reading.scan.Given as goal

abbrev pub invariant-loop-k : goal.invariant-loop-k
invariant-loop-k l = Scanned l.low l.high l.n (table l.chart) l.k l.answer
