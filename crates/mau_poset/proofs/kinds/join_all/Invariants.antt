use Rattle.std.proofs.Common.{take}
use Rattle.std.specs.Bool.{OnFalse}
use Rattle.mau_poset.specs.Labels.{AreLow, AreLabels, HaveOneLabel, Sank}
use Rattle.mau_poset.proofs.kinds.join_all.Given as goal

abbrev pub invariant-loop-a : goal.invariant-loop-a
invariant-loop-a l = AreLow l.labels
    × (AreLabels l.pairs l.initial.labels → AreLabels l.pairs l.labels)
    × Sank l.changed l.initial.labels l.labels
    × OnFalse l.changed (HaveOneLabel (take l.a-index l.pairs) l.labels)
