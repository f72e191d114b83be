use Rattle.std.proofs.Common.{◌≡◌, ◌<◌, ℕ, Some}
use Rattle.std.specs.List.{slice_get}
use Rattle.mau_chart.specs.declared.grammar.Leaf.{Leaf}
use Rattle.mau_chart.specs.Chart.{IsLeaf}
use Rattle.mau_text_tests.proofs.charts.are_leaves.Given as goal

abbrev pub invariant-loop-k : goal.invariant-loop-k
invariant-loop-k l = (k : ℕ) (x : Leaf) → k < l.k → slice_get l.leaves k ≡ Some x → IsLeaf l.n x
