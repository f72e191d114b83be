-- A relation on the numbers below n, kept as a table of bits.
use Rattle.std.specs.Prelude.{◌≡◌, ◌≢◌, ℕ, ◌+◌, ◌*◌, ◌/◌, ◌%◌, ◌<◌, Bool, true, false, List, sum, slice_index}
use Rattle.std.specs.Int.{bit_at}
use Rattle.std.specs.Int.RustNames.{bit_or}

-- how many words of 64 bits a row of n bits takes
abbrev pub width_of : ℕ → ℕ
width_of n = (n + 63) / 64

-- The bit of b is set in row a.
unfoldable pub HasBit : ℕ → List ℕ → ℕ → ℕ → Type 0
HasBit width table a b = bit_at (slice_index table (a * width + b / 64)) (b % 64) ≡ 1

-- Row a has taken up the first k words of row b, and all else is as it was.
pub record TakesUp (width : ℕ) (old new : List ℕ) (a b k : ℕ) : Type 0 where
  pub taken : (i : ℕ) → i < k → slice_index new (a * width + i) ≡ bit_or (slice_index old (a * width + i)) (slice_index old (b * width + i))
  pub others : (p : ℕ) → ((i : ℕ) → i < k → p ≢ a * width + i) → slice_index new p ≡ slice_index old p

-- The flag says whether the table grew. If it did not, it is as it was.
abbrev pub Grew : Bool → List ℕ → List ℕ → Type 0
Grew true old new = sum old < sum new
Grew false old new = new ≡ old

-- a is the least number whose own bit is set in its row
pub record IsLeastLoop (n : ℕ) (table : List ℕ) (a : ℕ) : Type 0 where
  pub within : a < n
  pub loop : HasBit (width_of n) table a a
  pub least : (b : ℕ) → b < a → ¬ HasBit (width_of n) table b b
