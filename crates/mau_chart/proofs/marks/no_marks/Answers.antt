use Rattle.std.proofs.Common.{[], ◌∷◌, length, ap, sym, subst, arith, length-append}
use Rattle.mau_chart.specs.Marks.{AllMarked}
use Rattle.mau_chart.proofs.Marked.{pushed_marked}
use Rattle.mau_chart.proofs.marks.no_marks.Goals as goal

pub loop-preserved : goal.loop-preserved
loop-preserved c = record {
  count = omega (arith, c.loop.invariant.count, ap length c.in_ok-push-2.ensures.items, length-append c.loop.marks.items (c.no_mark-in-loop.result ∷ []));
  most = omega (arith, c.loop.invariant.most, c.loop-test.true);
  marked = λ rows. subst (AllMarked rows) (sym c.in_ok-push-2.ensures.items) (pushed_marked rows c.loop.marks.items c.no_mark-in-loop.result c.no_mark-in-loop.ensures (c.loop.invariant.marked rows));
}

pub returns-clause-count : goal.returns-clause-count
returns-clause-count c = omega (arith, c.loop.invariant.count, c.loop.invariant.most, c.loop-test.false, c.loop.auto.counter)
