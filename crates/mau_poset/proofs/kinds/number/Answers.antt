use Rattle.std.proofs.Common.{◌<◌, length, arith}
use Rattle.mau_poset.proofs.Numbering.{IsNumbered-none, IsNumbered-low, IsNumbered-first, IsNumbered-later}
use Rattle.mau_poset.proofs.kinds.number.Goals as goal
use Rattle.mau_poset.proofs.kinds.number.Goals.{then-first-a, else-first-a}

pub loop-a-init : goal.loop-a-init
loop-a-init c = IsNumbered-none _ _ c.settle.ensures

pub bounds-labels-first : goal.bounds-labels-first
bounds-labels-first c =
    let a_in : c.loop-a.a < length c.loop-a.labels = omega arith in
    omega (arith, IsNumbered-low _ _ _ _ a_in c.loop-a.invariant)

pub loop-a-preserved : goal.loop-a-preserved
loop-a-preserved c =
    let a_in : c.loop-a.a < length c.loop-a.labels = omega arith in
    elim c.if-first-a.branch [
      | then-first-a w ↦ rw (w.labels-is, w.count-is) (IsNumbered-first _ _ _ _ a_in c.loop-a.invariant w.if-first-a.true)
      | else-first-a w ↦ rw (w.labels-is, w.count-is) (IsNumbered-later _ _ _ _ a_in c.loop-a.invariant w.if-first-a.false)
    ]
