use Rattle.std.proofs.Common.{◌≡◌, ℕ, ◌+◌, ◌-◌, ◌^◌, ◌≤◌, ◌<◌, min, Some}
use Rattle.std.specs.List.{slice_get}
use Rattle.mau_chart.specs.declared.grammar.Production.{Production}
use Rattle.mau_chart.proofs.fill.count_kinds.Given as goal

abbrev pub invariant-loop-k : goal.invariant-loop-k
invariant-loop-k l = record {
  above : (k : ℕ) (p : Production) → k < l.k → slice_get l.productions k ≡ Some p → min (p.kind + 1) (2 ^ 64 - 1) ≤ l.count;
  least : (m : ℕ) → ((k : ℕ) (p : Production) → slice_get l.productions k ≡ Some p → min (p.kind + 1) (2 ^ 64 - 1) ≤ m) → l.count ≤ m;
}
