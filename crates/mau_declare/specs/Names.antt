-- Names in the order of their first declarations, each once.
use Rattle.std.specs.Prelude.{ℕ, List, [], ◌∷◌, ◌++◌, Bool, Option, bytes_eq, if◌then◌else◌, position}
use Rattle.std.specs.List.{list_any}

-- x is one of the names
abbrev pub has_name : List (List ℕ) → List ℕ → Bool
has_name names x = list_any (bytes_eq x) names

-- the names with x among them: at the end, unless it is there
abbrev pub with_name : List (List ℕ) → List ℕ → List (List ℕ)
with_name names x = if has_name names x then names else names ++ x ∷ []

-- the number of a name, counted from 0
abbrev pub number_of : List (List ℕ) → List ℕ → Option ℕ
number_of names x = position (bytes_eq x) names
