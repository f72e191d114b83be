use Rattle.std.proofs.Common.{◌≤◌, ◌<◌, sym, ap, length, arith}
use Rattle.mau_chart.proofs.Cells.{cells_at, cells_past}
use Rattle.mau_chart.proofs.chart.Chart.count.Goals as goal

pub returns-then-i-len : goal.returns-then-i-len
returns-then-i-len c =
    let h : c.args.i < length c.args.self.now.rows.items = omega (arith, c.args.self.now.rows.ok.0) in
    omega (arith, ap length (cells_at c.args.self.now.rows.items c.args.i c.index.result.now h c.index.ensures), c.index.result.now.facts.ok.0)

pub returns-else-i-len : goal.returns-else-i-len
returns-else-i-len c =
    let h : length c.args.self.now.rows.items ≤ c.args.i = omega (arith, c.args.self.now.rows.ok.0) in
    ap length (sym (cells_past c.args.self.now.rows.items c.args.i h))
