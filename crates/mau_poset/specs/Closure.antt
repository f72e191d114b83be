-- The table of bits that stands for the chains of subsort pairs.
use Rattle.std.specs.Prelude.{◌≡◌, ℕ, ◌*◌, ◌<◌, List, length, All}
use Rattle.mau_poset.specs.Order.{IsBelow}
use Rattle.mau_poset.specs.Table.{width_of, HasBit}

-- each bit stands for a chain
abbrev pub HasOnlyChains : List (ℕ × ℕ) → ℕ → List ℕ → Type 0
HasOnlyChains pairs n table = (a b : ℕ) → b < n → HasBit (width_of n) table a b → IsBelow pairs a b

-- Row a has b and all that row b has.
pub record IsClosedAt (n : ℕ) (table : List ℕ) (a b : ℕ) : Type 0 where
  pub direct : HasBit (width_of n) table a b
  pub through : (c : ℕ) → c < n → HasBit (width_of n) table b c → HasBit (width_of n) table a c

-- the table is closed at each pair
abbrev pub IsClosedUnder : List (ℕ × ℕ) → ℕ → List ℕ → Type 0
IsClosedUnder pairs n table = All (λ p. IsClosedAt n table p.0 p.1) pairs

-- The bit of b is set in row a exactly where a is below b.
pub record IsClosureOf (pairs : List (ℕ × ℕ)) (n : ℕ) (table : List ℕ) : Type 0 where
  pub room : length table ≡ n * width_of n
  pub sound : HasOnlyChains pairs n table
  pub complete : (a b : ℕ) → a < n → IsBelow pairs a b → HasBit (width_of n) table a b
