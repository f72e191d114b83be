use Rattle.std.proofs.Common.{◌≡◌, false, true, sym, ◌∙◌, ap, arith}
use Rattle.std.specs.List.{slice_get}
use Rattle.std.proofs.lemmas.List.{length-map}
use Rattle.std.proofs.lemmas.Option.{slice_get_within}
use Rattle.mau_chart.specs.Chart.{IsOne}
use Rattle.mau_chart.specs.Table.{table, cells, edge_of}
use Rattle.mau_chart.proofs.Cells.{slice_get-seen, fact_at}
use Rattle.mau_chart.proofs.Step.{some_one}
use Rattle.mau_chart.proofs.Trials.{combined_none, combined_join}
use Rattle.mau_chart.proofs.fill.try_part.Goals as goal

pub returns-then-x-count-clause-combined : goal.returns-then-x-count-clause-combined
returns-then-x-count-clause-combined c =
    let s = c.args.chart.now in
    combined_none c.args.input.productions.now c.args.input.leaves.now (table s) c.args.at.row c.args.at.fact c.args.at.behind (IsOne c.args.x c.args.part)
    (λ y f g to ef eg p t w. omega (arith, p.0, slice_get_within (table s c.args.at.behind) y g eg, length-map (cells s.rows.items c.args.at.behind) (edge_of s.store), c.count.ensures, c.if-x-count.true))

pub returns-then-not-is-clause-combined : goal.returns-then-not-is-clause-combined
returns-then-not-is-clause-combined c =
    let s = c.args.chart.now in
    let b = c.fact.result.now in
    let there = slice_get-seen s.store (cells s.rows.items c.args.at.behind) c.args.x b c.fact.ensures in
    combined_none c.args.input.productions.now c.args.input.leaves.now (table s) c.args.at.row c.args.at.fact c.args.at.behind (IsOne c.args.x c.args.part)
    (λ y f g to ef eg p t w. (
    let z = some_one (edge_of s.store b) g (sym there ∙ ap (λ h. slice_get (table s c.args.at.behind) h) (sym p.0) ∙ eg) in
    let q : false ≡ true = sym c.if-not-is.true ∙ c.is.ensures.1 (ap (λ h. h.item) z ∙ p.1) in
    cc
    ))

pub returns-clause-combined : goal.returns-clause-combined
returns-clause-combined c =
    let s = c.args.chart.now in
    let b = c.fact.result.now in
    let there = slice_get-seen s.store (cells s.rows.items c.args.at.behind) c.args.x b c.fact.ensures in
    let a = fact_at (cells s.rows.items c.args.at.row) c.args.at.fact c.requires.first in
    let first = slice_get-seen s.store (cells s.rows.items c.args.at.row) c.args.at.fact a.0 a.1 in
    combined_join c.args.input.productions.now c.args.input.leaves.now (table s) (table c.join.new.self) c.args.at.row c.args.at.fact c.args.at.behind c.args.x (edge_of s.store a.0) (edge_of s.store b) c.args.part c.args.item
    first there (c.is.ensures.0 c.if-not-is.false) c.requires.steps c.requires.only c.in_ok-join.ensures.offered
