use Rattle.std.proofs.Common.{sym, ◌∙◌, ap, subst}
use Rattle.mau_chart.specs.Table.{seen, AreKnown}
use Rattle.mau_chart.proofs.Cells.{more_same, more_known}
use Rattle.mau_chart.proofs.chart.Chart.node.Goals as goal

pub returns-clause-chart : goal.returns-clause-chart
returns-clause-chart c =
    let s = c.args.self.now in
    let x = c.in_ok-id.ensures.extends in
    subst (λ ts. AreKnown ts s.rows.items) (sym x.1) (more_known s.store x.0 s.rows.items c.requires.chart)

pub returns-clause-same : goal.returns-clause-same
returns-clause-same c m =
    let s = c.args.self.now in
    let x = c.in_ok-id.ensures.extends in
    ap (λ ts. seen ts s.rows.items m) x.1 ∙ more_same s.store x.0 s.rows.items c.requires.chart m
