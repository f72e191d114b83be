use Rattle.std.proofs.Common.{◌≡◌, map, take}
use Rattle.mau_terms.specs.declared.ids.VarId.{VarId}
use Rattle.mau_terms.specs.declared.ids.TermId.{TermId}
use Rattle.mau_leaves.proofs.value.parted.Given as goal

abbrev pub invariant-loop-variable : goal.invariant-loop-variable
invariant-loop-variable l = (l.variables.items ≡ map (λ (b : VarId × TermId). b.0) (take l.variable-index l.bound)) × (l.values.items ≡ map (λ (b : VarId × TermId). b.1) (take l.variable-index l.bound))
