use Rattle.std.proofs.Common.{refl, ◌<◌, ◌∙◌, ap, length, arith}
use Rattle.std.specs.List.{slice_get}
use Rattle.std.proofs.lemmas.Option.{slice_get_read}
use Rattle.mau_chart.proofs.Cells.{cells_at, cells_within}
use Rattle.mau_chart.proofs.chart.Chart.fact.Goals as goal

pub index-requires : goal.index-requires
index-requires c = omega (arith, c.args.self.now.rows.ok.0, cells_within c.args.self.now.rows.items c.args.i c.args.k c.requires)

pub index-requires-2 : goal.index-requires-2
index-requires-2 c =
    let h = cells_within c.args.self.now.rows.items c.args.i c.args.k c.requires in
    omega (arith, c.requires, ap length (cells_at c.args.self.now.rows.items c.args.i c.index.result.now h c.index.ensures), c.index.result.now.facts.ok.0)

pub returns : goal.returns
returns c =
    let h = cells_within c.args.self.now.rows.items c.args.i c.args.k c.requires in
    let e = cells_at c.args.self.now.rows.items c.args.i c.index.result.now h c.index.ensures in
    let k : c.args.k < length c.index.result.now.facts.items = omega (arith, c.requires, ap length e) in
    ap (λ fs. slice_get fs c.args.k) e ∙ slice_get_read c.index.result.now.facts.items (length c.index.result.now.facts.items) c.args.k c.index-2.result.now refl k c.index-2.ensures
