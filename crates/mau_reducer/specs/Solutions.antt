-- What becomes of a condition, with the values of variables in a list of their own and in pairs.
use Rattle.std.specs.Prelude.{◌≡◌, ℕ, List, Option, Some, None, Result, Ok, Err}
use Rattle.std.specs.List.{zip}
use Rattle.mau_terms.specs.declared.ids.VarId.{VarId}
use Rattle.mau_terms.specs.declared.ids.TermId.{TermId}
use Rattle.mau_api.specs.declared.results.EvalEnd.{EvalEnd}
use Rattle.mau_api.specs.declared.results.EvalEnd.TheVariants.{NoMemory}
use Rattle.mau_reduce.specs.declared.binding.Binding.{Binding}

-- the second says the same as the first, or that memory is wanted
abbrev pub IsPaired : Result (Option (Binding × ℕ)) EvalEnd → Result (Option (List (VarId × TermId) × ℕ)) EvalEnd → Type 0
IsPaired r (Err NoMemory) = Unit {0}
IsPaired (Err e) (Err d) = e ≡ d
IsPaired (Ok None) (Ok None) = Unit {0}
IsPaired (Ok (Some x)) (Ok (Some y)) = (zip x.0.variables.items x.0.values.items ≡ y.0) × (x.1 ≡ y.1)
IsPaired r s = ⊥
