-- The greatest common divisor.
use Rattle.std.specs.Prelude.{ℕ, zero, suc, ◌+◌, ◌%◌, ◌==◌, Bool, ◌&&◌, if◌then◌else◌}

-- d, which is above 0, divides n
abbrev pub divides : ℕ → ℕ → Bool
divides d n = n % d == 0

-- the greatest number up to the bound that is above 0 and passes the test, or 0 where there is none
unfoldable pub greatest : (ℕ → Bool) → ℕ → ℕ
greatest test zero = zero
greatest test (suc n) = if test (suc n) then suc n else greatest test n

-- the greatest number that divides both, which is not above their sum; 0 of 0 and 0
abbrev pub gcd_of : ℕ → ℕ → ℕ
gcd_of a b = greatest (λ d. divides d a && divides d b) (a + b)
