-- Numerals of 2^128 or more.
use Rattle.std.specs.Prelude.{◌≡◌, ℕ, ◌≤◌, ◌<◌, ◌^◌, List, true, Option, Some, None, slice_get}
use Rattle.std.specs.Str.Parse.{digits_value}
use Rattle.mau_numerals.specs.Numerals.{is_numeral}

-- the word at i is one
pub record IsTooLarge (ws : List (List ℕ)) (i : ℕ) : Type 0 where
  pub word : List ℕ
  pub there : slice_get ws i ≡ Some word
  pub numeral : is_numeral word ≡ true
  pub large : 2 ^ 128 ≤ digits_value 10 word

-- and none before it is
abbrev pub IsFirstTooLarge : List (List ℕ) → ℕ → Type 0
IsFirstTooLarge ws i = IsTooLarge ws i × ((j : ℕ) → j < i → IsTooLarge ws j → ⊥)

-- where there are numerals, none is too large
abbrev pub AllSmall : Option ℕ → List (List ℕ) → Type 0
AllSmall None ws = Unit {0}
AllSmall (Some k) ws = (i : ℕ) → IsTooLarge ws i → ⊥
