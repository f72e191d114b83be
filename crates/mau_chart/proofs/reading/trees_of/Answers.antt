use Rattle.std.proofs.Common.{◌∙◌, sym, ap, subst, length}
use Rattle.mau_chart.specs.Nodes.{AllBelow, trees_at}
use Rattle.mau_chart.specs.Table.{cells}
use Rattle.mau_chart.proofs.Cells.{seen_at}
use Rattle.mau_chart.proofs.reading.trees_of.Goals as goal

pub returns-clause-below : goal.returns-clause-below
returns-clause-below c =
    let s = c.args.chart.now in
    subst (AllBelow (length s.store)) (sym (c.in_ok-from_slice.ensures.items ∙ c.deref.ensures.value)) (c.requires.chart 0 c.args.k c.fact.result.now c.fact.ensures).below

pub returns-clause-value : goal.returns-clause-value
returns-clause-value c f e =
    let s = c.args.chart.now in
    ap (trees_at s.store) (c.in_ok-from_slice.ensures.items ∙ c.deref.ensures.value)
    ∙ ap (λ g. g.trees) (seen_at s.store (cells s.rows.items 0) c.args.k f c.fact.result.now c.fact.ensures e)
