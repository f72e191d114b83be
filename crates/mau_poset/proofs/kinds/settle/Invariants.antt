use Rattle.std.proofs.Common.{sum}
use Rattle.mau_poset.specs.Labels.{AreLow, AreLabels}
use Rattle.mau_poset.proofs.kinds.settle.Given as goal

abbrev pub invariant-loop-labels : goal.invariant-loop-labels
invariant-loop-labels l = AreLow l.labels × AreLabels l.pairs l.labels

abbrev pub decreases-loop-labels : goal.decreases-loop-labels
decreases-loop-labels l = sum l.labels
