use Rattle.std.proofs.Common.{◌≡◌, ◌<◌, ℕ}
use Rattle.mau_poset.specs.Order.{kind_of}
use Rattle.mau_module.proofs.numbering.first_sort.Given as goal

abbrev pub invariant-loop-sort : goal.invariant-loop-sort
invariant-loop-sort l = (k : ℕ) → k < l.sort → kind_of l.poset k ≡ l.kind → ⊥
