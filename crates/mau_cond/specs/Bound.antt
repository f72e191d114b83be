-- Variables with their values, in two lists.
use Rattle.std.specs.Prelude.{List, [], ◌∷◌, ◌++◌, Bool, false, ◌||◌, if◌then◌else◌}
use Rattle.mau_terms.specs.Subst.{same_variable}
use Rattle.mau_terms.specs.View.{variable_of}
use Rattle.mau_terms.specs.declared.ids.VarId.{VarId}
use Rattle.mau_terms.specs.declared.ids.TermId.{TermId}

-- x has a value
abbrev pub is_bound : List (VarId × TermId) → VarId → Bool
is_bound [] x = false
is_bound (b ∷ bs) x = same_variable (variable_of b.0) (variable_of x) || is_bound bs x

-- the pairs bs, and then those of `more` whose variables have no value yet
abbrev pub extended : List (VarId × TermId) → List (VarId × TermId) → List (VarId × TermId)
extended bs [] = bs
extended bs (b ∷ more) = extended (if is_bound bs b.0 then bs else bs ++ b ∷ []) more
