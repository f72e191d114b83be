-- To variables and numerals memberships give none.
use Rattle.std.proofs.Common.{ℕ, List, [], refl}
use Rattle.mau_terms.specs.Tree.{Tree, variable, numeral, apply}
use Rattle.mau_formula.specs.Operator.{Operator}
use Rattle.mau_program.specs.declared.program.Program as Typed
use Rattle.mau_api.specs.Programs.{program_over}
use Rattle.mau_deriving.specs.Given.{GiveJust}
use Rattle.mau_deriving.specs.Asking.{IsApplied}

pub leaf_given : (p : Typed.Program) (hooks : List Operator) (limit : ℕ) (t : Tree) → (IsApplied t → ⊥) → GiveJust (program_over p hooks) limit p.sig.hierarchy t []
leaf_given p hooks limit (variable i s) h = refl
leaf_given p hooks limit (numeral n) h = refl
leaf_given p hooks limit (apply f ts) h = absurd (h tt)
