-- The variables of an item, seen as a list of pairs: the bytes of a name, and the number of a sort.
use Rattle.std.specs.Prelude.{◌≡◌, ℕ, List, [], ◌∷◌, ◌++◌, Bool, false, ◌==◌, ◌&&◌, Some, slice_get, bytes_eq, if◌then◌else◌}
use Rattle.std.specs.List.{list_any, position_or_len}
use Rattle.mau_terms.specs.declared.ids.VarId.{VarId}

-- the two are one pair
abbrev pub same_pair : (List ℕ × ℕ) → (List ℕ × ℕ) → Bool
same_pair x y = bytes_eq x.0 y.0 && (x.1 == y.1)

-- the place of x, counted from 0: that of the first pair that is x, or the length where none is
abbrev pub place_of : List (List ℕ × ℕ) → (List ℕ × ℕ) → ℕ
place_of xs x = position_or_len (same_pair x) xs

-- the pairs with x among them: at the end, unless it is there
abbrev pub with_pair : List (List ℕ × ℕ) → (List ℕ × ℕ) → List (List ℕ × ℕ)
with_pair xs x = if list_any (same_pair x) xs then xs else xs ++ x ∷ []

-- each pair is there once
abbrev pub AreDistinct : List (List ℕ × ℕ) → Type 0
AreDistinct [] = Unit {0}
AreDistinct (x ∷ xs) = (list_any (same_pair x) xs ≡ false) × AreDistinct xs

-- v is a variable of these: the pair at its index has its sort
abbrev pub IsGiven : List (List ℕ × ℕ) → VarId → Type 0
IsGiven xs v = (name : List ℕ) × (slice_get xs v.index ≡ Some (name, v.sort))
