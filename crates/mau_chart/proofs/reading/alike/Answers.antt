use Rattle.std.proofs.Common.{ap, sym, ◌∙◌}
use Rattle.mau_chart.specs.Nodes.{trees_at}
use Rattle.mau_chart.specs.Table.{cells}
use Rattle.mau_chart.proofs.Cells.{seen_at}
use Rattle.mau_chart.proofs.reading.alike.Goals as goal

pub returns : goal.returns
returns c f g ef eg =
    let s = c.args.chart.now in
    let a = c.fact.result.now in
    let b = c.fact-2.result.now in
    let x = ap (trees_at s.store) c.deref.ensures.value ∙ ap (λ z. z.trees) (seen_at s.store (cells s.rows.items 0) c.args.j f a c.fact.ensures ef) in
    let y = ap (trees_at s.store) c.deref-2.ensures.value ∙ ap (λ z. z.trees) (seen_at s.store (cells s.rows.items 0) c.args.k g b c.fact-2.ensures eg) in
    (λ h. sym x ∙ c.same.ensures.0 h ∙ y, λ e. c.same.ensures.1 (x ∙ e ∙ sym y))
