use Rattle.std.proofs.Common.{ℕ, ◌≤◌, List, sum}
use Rattle.mau_poset.specs.Labels.{AreLow, AreLabels}
use Rattle.mau_poset.proofs.kinds.shorten.Given as goal

abbrev pub invariant-loop-a : goal.invariant-loop-a
invariant-loop-a l = AreLow l.labels
    × ((pairs : List (ℕ × ℕ)) → AreLabels pairs l.initial.labels → AreLabels pairs l.labels)
    × (sum l.labels ≤ sum l.initial.labels)
