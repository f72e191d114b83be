use Rattle.std.proofs.Common.{◌≡◌, true, false, sym, ◌∙◌, ap}
use Rattle.mau_chart.specs.Nodes.{trees_at}
use Rattle.mau_chart.proofs.Cells.{had}
use Rattle.mau_chart.proofs.chart.Chart.is_news.Goals as goal

pub returns-else-same-clause-second : goal.returns-else-same-clause-second
returns-else-same-clause-second c e =
    let f = c.in-Some.fact.now in
    (trees_at c.args.self.now.store f.trees.items, had c.args.self.now c.args.i c.args.item c.args.end f c.in-Some.ensures, λ q. let z : false ≡ true = (sym c.if-same.false ∙ c.same.ensures.1 (ap (trees_at c.args.self.now.store) c.deref.ensures.value ∙ q)) in cc)
