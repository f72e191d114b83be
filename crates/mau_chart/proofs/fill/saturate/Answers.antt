use Rattle.std.proofs.Common.{◌<◌, refl, ◌∙◌, length, arith}
use Rattle.std.proofs.lemmas.List.{length-map}
use Rattle.mau_chart.specs.Table.{table, cells, edge_of}
use Rattle.mau_chart.proofs.Grows.{grows_on}
use Rattle.mau_chart.proofs.Grouped.{indexed_stays}
use Rattle.mau_chart.proofs.Trials.{done_on}
use Rattle.mau_chart.proofs.fill.saturate.Goals as goal

pub loop-k-preserved : goal.loop-k-preserved
loop-k-preserved c =
    let s = c.loop-k.chart in
    let n = c.process.new.chart in
    let e = c.in_ok-process.ensures in
    let l : c.loop-k.k < length (table s c.args.i) = omega (arith, length-map (cells s.rows.items c.args.i) (edge_of s.store), c.count.ensures, c.if-k-count.false) in
    record {
      chart = e.chart;
      rows = e.rows ∙ c.loop-k.invariant.rows;
      grows = grows_on (table c.args.chart.now) (table s) (table n) c.args.i c.loop-k.invariant.grows e.grows;
      sound = e.sound;
      done = done_on c.args.input.productions.now c.args.input.leaves.now c.args.n c.requires.leaves c.requires.forms (table s) (table n) c.args.i e.grows c.loop-k.invariant.sound c.loop-k.k _ refl l c.loop-k.invariant.done e.processed;
      some = omega (arith, c.loop-k.invariant.some);
      marked = e.marked;
    }

pub process-requires-clause-index : goal.process-requires-clause-index
process-requires-clause-index c = indexed_stays (table c.args.chart.now) (table c.loop-k.chart) c.args.n c.args.i c.args.index.now c.loop-k.invariant.grows c.requires.index
