-- The laws of numerals. Each is proved: a public function of the module `laws` has it for its contract.
use Rattle.std.specs.Prelude.{◌≡◌, ℕ, ◌<◌, ◌^◌, List, true, decimal}
use Rattle.std.specs.Str.Parse.{digits_value}
use Rattle.mau_numerals.specs.Numerals.{is_numeral}

-- the decimal of a number is a numeral, and has the number for its value
abbrev pub DecimalsAreNumerals : Type 0
DecimalsAreNumerals = (n : ℕ) → n < 10 ^ 64 → (is_numeral (decimal n) ≡ true) × (digits_value 10 (decimal n) ≡ n)

-- a numeral is the decimal of its value
abbrev pub NumeralsAreDecimals : Type 0
NumeralsAreDecimals = (w : List ℕ) → is_numeral w ≡ true → digits_value 10 w < 10 ^ 64 → w ≡ decimal (digits_value 10 w)
