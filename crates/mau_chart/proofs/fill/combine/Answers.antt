use Rattle.std.proofs.Common.{◌≡◌, ◌<◌, ◌+◌, refl, ◌∙◌, length, arith, subst}
use Rattle.std.proofs.lemmas.List.{length-map}
use Rattle.std.proofs.lemmas.Option.{slice_get_read}
use Rattle.mau_chart.specs.Chart.{IsAmong, Combined}
use Rattle.mau_chart.specs.Groups.{IsGrouped}
use Rattle.mau_chart.specs.Table.{table, cells, edge_of}
use Rattle.mau_chart.proofs.Grouped.{grouped_on}
use Rattle.mau_chart.proofs.Trials.{old_place, combined_on}
use Rattle.mau_chart.proofs.fill.combine.Goals as goal

pub combine_group-requires-clause-whole : goal.combine_group-requires-clause-whole
combine_group-requires-clause-whole c f e =
    let s = c.args.chart.now in
    let h : c.args.at.fact < length (table s c.args.at.row) = omega (arith, c.requires.first, length-map (cells s.rows.items c.args.at.row) (edge_of s.store)) in
    c.requires.whole f (old_place (table s) (table c.loop-w.chart) c.args.at.row c.loop-w.invariant.combined.grows c.args.at.fact f h e)

pub loop-w-preserved : goal.loop-w-preserved
loop-w-preserved c =
    let w = c.loop-w.w in
    let gs = c.args.groups.now in
    let g = c.index-groups-w.result in
    let e = c.in_ok-combine_group.ensures in
    record {
      chart = e.chart;
      rows = e.rows ∙ c.loop-w.invariant.rows;
      combined = combined_on c.args.input.productions.now c.args.input.leaves.now (table c.args.chart.now) (table c.loop-w.chart) (table c.combine_group.new.chart) c.args.at.row c.args.at.fact c.args.at.behind
          (IsGrouped gs w) (IsAmong g.parts.items g.item (length g.parts.items)) (IsGrouped gs (w + 1)) c.requires.other
          (grouped_on gs w (w + 1) g refl (slice_get_read gs (length gs) w g refl c.loop-w-test.true c.index-groups-w.is))
          c.loop-w.invariant.combined e.combined;
      some = omega (arith, c.loop-w.invariant.some);
      marked = e.marked;
    }

pub returns-clause-combined : goal.returns-clause-combined
returns-clause-combined c =
    let groups = c.args.groups.now in
    let all : c.loop-w.w ≡ length groups = omega arith in
    subst (λ n. Combined c.args.input.productions.now c.args.input.leaves.now (table c.args.chart.now) (table c.loop-w.chart) c.args.at.row c.args.at.fact c.args.at.behind (IsGrouped groups n))
    all c.loop-w.invariant.combined
