use Rattle.std.proofs.Common.{◌≡◌, ◌+◌, ◌<◌, Some, true, false, get_or, length, arith, refl, ◌∙◌, subst}
use Rattle.std.specs.List.{slice_get}
use Rattle.std.proofs.lemmas.List.{length-map}
use Rattle.std.proofs.lemmas.Option.{slice_get-get_or}
use Rattle.mau_chart.specs.Chart.{IsOne, IsAmong, Combined}
use Rattle.mau_chart.specs.Table.{table, cells, edge_of}
use Rattle.mau_chart.proofs.Grouped.{among_one}
use Rattle.mau_chart.proofs.Marked.{among_marked}
use Rattle.mau_chart.proofs.Trials.{old_place, steps_only_stays, combined_none, combined_full, combined_on}
use Rattle.mau_chart.proofs.fill.combine_places.Goals as goal

pub loop-z-init : goal.loop-z-init
loop-z-init c =
    let ps = c.args.input.productions.now in
    let t = table c.args.chart.now in
    let places = c.args.places.now in
    let mark = c.args.mark.now in
    let full = c.next_open-z.ensures in
    record {
      chart = c.requires.chart;
      rows = refl;
      combined = combined_full ps c.args.input.leaves.now t t c.args.at.row c.args.at.fact c.args.at.behind c.args.part c.args.item (IsAmong places c.args.part 0) (IsAmong places c.args.part c.next_open-z.result) c.requires.only
          (among_marked t mark c.args.at.row c.args.item c.args.part places 0 c.next_open-z.result c.requires.mark.0 c.requires.mark.1 c.requires.marked
          (λ y p l h e. subst (λ fs. get_or fs p.end false ≡ true) c.deref.ensures.value (full.marked y p l h e)))
          (combined_none ps c.args.input.leaves.now t c.args.at.row c.args.at.fact c.args.at.behind (IsAmong places c.args.part 0) (λ x f g to ef eg p s w. omega (arith, p.0.1)));
      mark = c.requires.mark;
      marked = c.requires.marked;
      within = full.within;
    }

pub try_place-requires-clause-steps : goal.try_place-requires-clause-steps
try_place-requires-clause-steps c f e =
    let s = c.args.chart.now in
    let h : c.args.at.fact < length (table s c.args.at.row) = omega (arith, c.requires.first, length-map (cells s.rows.items c.args.at.row) (edge_of s.store)) in
    c.requires.steps f (old_place (table s) (table c.loop-z.chart) c.args.at.row c.loop-z.invariant.combined.grows c.args.at.fact f h e)

pub try_place-requires-clause-only : goal.try_place-requires-clause-only
try_place-requires-clause-only c =
    let s = c.args.chart.now in
    let h : c.args.at.fact < length (table s c.args.at.row) = omega (arith, c.requires.first, length-map (cells s.rows.items c.args.at.row) (edge_of s.store)) in
    steps_only_stays c.args.input.productions.now c.args.input.leaves.now (table s) (table c.loop-z.chart) c.args.at.row c.args.at.fact c.args.part c.args.item c.loop-z.invariant.combined.grows h c.requires.only

pub loop-z-preserved : goal.loop-z-preserved
loop-z-preserved c =
    let ps = c.args.input.productions.now in
    let ls = c.args.input.leaves.now in
    let s = table c.args.chart.now in
    let t = table c.loop-z.chart in
    let n = table c.try_place.new.chart in
    let places = c.args.places.now in
    let part = c.args.part in
    let z = c.loop-z.z in
    let e = c.in_ok-try_place.ensures in
    let full = c.next_open-z-in-loop-z.ensures in
    let p = get_or places z (record { at = 0; end = 0 }) in
    let there : slice_get places z ≡ Some p = slice_get-get_or places z (record { at = 0; end = 0 }) c.loop-z-test.true in
    let tried = combined_on ps ls s t n c.args.at.row c.args.at.fact c.args.at.behind (IsAmong places part z) (IsOne p.at part) (IsAmong places part (z + 1)) c.requires.other
    (λ y g a. among_one places part p z (z + 1) y g refl there a) c.loop-z.invariant.combined e.combined in
    record {
      chart = e.chart;
      rows = e.rows ∙ c.loop-z.invariant.rows;
      combined = combined_full ps ls s n c.args.at.row c.args.at.fact c.args.at.behind part c.args.item (IsAmong places part (z + 1)) (IsAmong places part c.next_open-z-in-loop-z.result) c.requires.only
          (among_marked n c.try_place.new.mark c.args.at.row c.args.item part places (z + 1) c.next_open-z-in-loop-z.result e.mark.0 e.mark.1 e.marked
          (λ y q l h k. subst (λ fs. get_or fs q.end false ≡ true) c.deref-in-loop-z.ensures.value (full.marked y q l h k)))
          tried;
      mark = e.mark;
      marked = e.marked;
      within = full.within;
    }

pub returns-clause-combined : goal.returns-clause-combined
returns-clause-combined c =
    let places = c.args.places.now in
    let all : c.loop-z.z ≡ length places = omega (arith, c.loop-z-test.false, c.loop-z.invariant.within) in
    subst (λ n. Combined c.args.input.productions.now c.args.input.leaves.now (table c.args.chart.now) (table c.loop-z.chart) c.args.at.row c.args.at.fact c.args.at.behind (IsAmong places c.args.part n))
    all c.loop-z.invariant.combined
