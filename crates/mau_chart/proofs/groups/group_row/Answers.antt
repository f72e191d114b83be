use Rattle.std.proofs.Common.{◌≡◌, ◌+◌, false, true, refl, sym, ◌∙◌, subst, arith}
use Rattle.std.proofs.lemmas.List.{length-map}
use Rattle.std.proofs.lemmas.Option.{slice_get_within}
use Rattle.mau_chart.specs.Table.{table, cells, edge_of}
use Rattle.mau_chart.proofs.Cells.{slice_get-seen}
use Rattle.mau_chart.proofs.Grouped.{AreGroupedTo, grouped_more}
use Rattle.mau_chart.proofs.groups.group_row.Goals as goal
use Rattle.mau_chart.proofs.groups.group_row.Goals.{then-waits+in_ok-enter, else-waits}

pub loop-x-preserved : goal.loop-x-preserved
loop-x-preserved c =
    let s = c.args.chart.now in
    let m = c.args.m in
    let x = c.loop-x.x in
    let a = c.fact-fact.result.now in
    let there = slice_get-seen s.store (cells s.rows.items m) x a c.fact-fact.ensures in
    elim c.if-waits.branch [
      | then-waits+in_ok-enter w ↦
          subst (λ v. AreGroupedTo (table s) m v.items (x + 1)) (sym w.groups-is)
          (grouped_more (table s) m c.loop-x.groups.items w.enter.new.groups.items x (x + 1) (edge_of s.store a) refl there w.in_ok-enter.ensures.others (λ k d e. w.in_ok-enter.ensures.there) c.loop-x.invariant)
      | else-waits w ↦
          subst (λ v. AreGroupedTo (table s) m v.items (x + 1)) (sym w.groups-is)
          (grouped_more (table s) m c.loop-x.groups.items c.loop-x.groups.items x (x + 1) (edge_of s.store a) refl there (λ it y h. h) (λ k d e. let z : false ≡ true = sym w.if-waits.false ∙ c.waits.ensures.where_part k d e in cc) c.loop-x.invariant)
    ]

pub returns : goal.returns
returns c x k d f e h =
    let s = c.args.chart.now in
    c.loop-x.invariant x k d f (omega (arith, slice_get_within (table s c.args.m) x f e, length-map (cells s.rows.items c.args.m) (edge_of s.store), c.count-x-end.ensures, c.loop-x-test.false)) e h
