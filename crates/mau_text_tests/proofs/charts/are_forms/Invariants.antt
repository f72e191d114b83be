use Rattle.std.proofs.Common.{◌≡◌, ◌≢◌, ◌<◌, ℕ, [], Some}
use Rattle.std.specs.List.{slice_get}
use Rattle.mau_chart.specs.declared.grammar.Production.{Production}
use Rattle.mau_text_tests.proofs.charts.are_forms.Given as goal

abbrev pub invariant-loop-k : goal.invariant-loop-k
invariant-loop-k l = (k : ℕ) (p : Production) → k < l.k → slice_get l.productions k ≡ Some p → p.pieces.items ≢ []
