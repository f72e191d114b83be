use Rattle.std.proofs.Common.{length-append, ◌∷◌, ◌≡◌, ◌<◌, ◌+◌, ◌-◌, suc, [], refl, sym, ◌∙◌, ap, map, length, subst, arith, rules}
use Rattle.mau_chart.specs.Table.{table, edge_of}
use Rattle.mau_chart.proofs.Cells.{cells_past}
use Rattle.mau_chart.specs.Groups.{AreIndexed}
use Rattle.mau_chart.specs.Marks.{AllMarked}
use Rattle.mau_chart.proofs.Lists.{filled}
use Rattle.mau_chart.proofs.Grouped.{indexed_on, indexed_stays}
use Rattle.mau_chart.proofs.Rows.{AreRows, rows_on, rows_closed}
use Rattle.mau_chart.proofs.fill.fill.Goals as goal

pub loop-r-init : goal.loop-r-init
loop-r-init c = record {
  chart = c.requires.chart;
  rows = c.requires.rows;
  sound = search rules;
  indexed = search rules;
  grouped = search rules;
  full = search rules;
  some = omega (arith, c.in_ok-marks.ensures.count);
  marked = c.in_ok-marks.ensures.marked (table c.args.chart.now);
}

pub loop-r-preserved : goal.loop-r-preserved
loop-r-preserved c =
    let n = c.args.n in
    let r = c.loop-r.r in
    let e = c.in_ok-fill_row.ensures in
    let ps = c.args.productions.now in
    let ls = c.args.leaves.now in
    let l : r < n + 1 = omega (arith, c.loop-r-test.true, c.len-rows.ensures, c.requires.rows, c.args.chart.now.rows.ok.0) in
    let a : n + 1 - r ≡ suc (n - r) = omega (arith, l) in
    let same = filled c.loop-r.marks.len c.fill_row.new.marks c.loop-r.marks.items (omega (arith, c.fill_row.auto.marks, c.deref_mut.ensures.len)) (sym c.loop-r.marks.ok.0) in
    let b : n - r ≡ n + 1 - (r + 1) = omega arith in
    record {
      chart = e.chart;
      rows = e.rows ∙ c.loop-r.invariant.rows;
      sound = e.sound;
      indexed = subst (AreIndexed (table c.fill_row.new.chart) n (n - (r + 1))) (sym c.in_ok-push.ensures.items)
          (indexed_on (table c.fill_row.new.chart) n r (n - r) (n - (r + 1)) c.loop-r.index.items _ (omega (arith, l)) refl refl c.loop-r.invariant.grouped
          (indexed_stays (table c.loop-r.chart) (table c.fill_row.new.chart) n (n - r) c.loop-r.index.items e.grows c.loop-r.invariant.indexed) c.in_ok-group_row.ensures);
      grouped = ap length c.in_ok-push.ensures.items ∙ omega (arith, c.loop-r.invariant.grouped, length-append c.loop-r.index.items (c.in_ok-group_row.field-0 ∷ []));
      full = subst (AreRows ps ls (table c.fill_row.new.chart) n) b (rows_on ps ls n c.requires.leaves c.requires.forms (table c.loop-r.chart) (table c.fill_row.new.chart) (n - r) e.grows c.loop-r.invariant.sound (subst (AreRows ps ls (table c.loop-r.chart) n) a c.loop-r.invariant.full) e.full);
      some = omega (arith, ap length same, c.fill_row.auto.marks, c.loop-r.invariant.some, c.deref_mut.ensures.len);
      marked = subst (AllMarked (table c.fill_row.new.chart)) (sym same) e.marked;
    }

pub returns-clause-closed : goal.returns-clause-closed
returns-clause-closed c =
    let n = c.args.n in
    let s = c.loop-r.chart in
    let z : n + 1 - c.loop-r.r ≡ 0 = omega (arith, c.loop-r-test.false, c.len-rows.ensures, c.requires.rows, c.args.chart.now.rows.ok.0) in
    rows_closed c.args.productions.now c.args.leaves.now n c.requires.leaves (table s)
    (λ h l. ap (map (edge_of s.store)) (cells_past s.rows.items h (omega (arith, l, c.loop-r.invariant.rows))))
    (subst (AreRows c.args.productions.now c.args.leaves.now (table s) n) z c.loop-r.invariant.full)

pub fill_row-requires-clause-index : goal.fill_row-requires-clause-index
fill_row-requires-clause-index c =
    subst (AreIndexed (table c.loop-r.chart) c.args.n (c.args.n - c.loop-r.r)) (sym c.deref.ensures.value) c.loop-r.invariant.indexed
