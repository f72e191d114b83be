-- How a long list is written from left to right.
use Rattle.std.specs.Prelude.{◌≡◌, ℕ, zero, suc, length, List, [], ◌∷◌, ◌++◌, Bool, true, false, codes, if◌then◌else◌}
use Rattle.mau_grammar.specs.declared.production.Part.{Part}
use Rattle.mau_grammar.specs.Production.{place, places}
use Rattle.mau_print.specs.Written.{Printed, pieces, spaced}

-- the second place of a form stands behind `at` parts, and admits levels up to `upto`
pub record IsSecondPlace (ps : List Part) (at upto : ℕ) : Type 0 where
  pub before : List Part
  pub after : List Part
  pub kind : ℕ
  pub split : ps ≡ before ++ place kind upto ∷ after
  pub len : length before ≡ at
  pub one : places before ≡ 1

-- the first element, with what stands before the list of the others
abbrev pub opening : Bool → List Part → Printed → List ℕ
opening in_brackets before x = spaced true (pieces before (x ∷ [])) ++ (codes " " ++ (if in_brackets then codes "(" else []))

-- what stands behind the list of the others
abbrev pub closing : Bool → List Part → List ℕ
closing in_brackets after = (if in_brackets then codes ")" else []) ++ spaced false (pieces after [])

-- the same text n times
abbrev pub times : ℕ → List ℕ → List ℕ
times zero w = []
times (suc n) w = w ++ times n w
