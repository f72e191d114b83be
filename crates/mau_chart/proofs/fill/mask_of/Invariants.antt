use Rattle.std.proofs.Common.{◌≡◌, ◌<◌, ℕ, Some, get_or, true}
use Rattle.std.specs.List.{slice_get}
use Rattle.mau_chart.specs.declared.grammar.Production.{Production}
use Rattle.mau_chart.specs.declared.grammar.Leaf.{Leaf}
use Rattle.mau_chart.proofs.fill.mask_of.Given as goal

abbrev pub invariant-loop-k : goal.invariant-loop-k
invariant-loop-k l = (k : ℕ) (p : Production) → k < l.k → slice_get l.productions k ≡ Some p → get_or l.mask.items p.kind true ≡ true

abbrev pub invariant-loop-k-2 : goal.invariant-loop-k-2
invariant-loop-k-2 l = record {
  forms : (k : ℕ) (p : Production) → slice_get l.productions k ≡ Some p → get_or l.mask.items p.kind true ≡ true;
  leaves : (k : ℕ) (x : Leaf) → k < l.k → slice_get l.leaves k ≡ Some x → x.end ≡ l.i → get_or l.mask.items x.kind true ≡ true;
}
