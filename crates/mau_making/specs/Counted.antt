-- What is counted in a transcript.
use Rattle.std.specs.Prelude.{◌≡◌, ℕ, ◌+◌, ◌^◌, ◌==◌, nat_lt, List, [], ◌∷◌, length, take, drop, codes, Bool, ◌&&◌, not, if◌then◌else◌}
use Rattle.std.specs.Char.{is_ascii_digit}
use Rattle.std.specs.List.{list_all, slice_split}
use Rattle.std.specs.Str.{bytes_eq}
use Rattle.std.specs.Str.Parse.{digits_value}

-- its lines, which line feeds part
abbrev pub lines_of : List ℕ → List (List ℕ)
lines_of bytes = slice_split (λ b. b == 10) bytes

-- a line begins with the word w
abbrev pub begins_with : List ℕ → List ℕ → Bool
begins_with w line = bytes_eq (take (length w) line) w

-- the number below 2^64 that decimal digits write, one at least; 0, where there is none
abbrev pub number_in : List ℕ → ℕ
number_in w = if not (length w == 0) && list_all is_ascii_digit w && nat_lt (digits_value 10 w) (2 ^ 64) then digits_value 10 w else 0

-- the number that stands behind the word w in a line that begins with it
abbrev pub number_behind : List ℕ → List ℕ → ℕ
number_behind w line = if begins_with w line then number_in (drop (length w) line) else 0

abbrev pub one_if : List ℕ → List ℕ → ℕ
one_if w line = if begins_with w line then 1 else 0

abbrev pub total : (List ℕ → ℕ) → List (List ℕ) → ℕ
total count [] = 0
total count (l ∷ ls) = count l + total count ls

-- how many items some lines have, since each answer begins with a bracket; how many matchers are listed; and the sum of the counts that are shown
pub record AreCountsIn (lines : List (List ℕ)) (items matchers rewrites : ℕ) : Type 0 where
  pub items_are : items ≡ total (one_if (codes "[")) lines
  pub matchers_are : matchers ≡ total (one_if (codes "Matcher ")) lines
  pub rewrites_are : rewrites ≡ total (number_behind (codes "rewrites: ")) lines

-- those of a transcript
abbrev pub AreCounts : List ℕ → ℕ → ℕ → ℕ → Type 0
AreCounts bytes items matchers rewrites = AreCountsIn (lines_of bytes) items matchers rewrites
