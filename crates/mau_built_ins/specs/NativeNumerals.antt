-- Native operators that give numerals for numerals.
use Rattle.std.specs.Prelude.{◌≡◌, ℕ, ◌≤◌}
use Rattle.mau_terms.specs.Norm.{greatest_numeral}
use Rattle.mau_formula.specs.Operator.{Operator}
use Rattle.mau_formula.specs.Expr.{Expr, arg, lit, add, mul, monus, quo, rem, gcd, min_of, max_of, pow, if_less, value}
use Rattle.mau_formula.specs.declared.formula.HookAnswer.TheVariants.{Value}

-- the numbers that a native operator gives for numerals are numerals
abbrev pub GivesNumerals : Operator → Type 0
GivesNumerals o = (m n k : ℕ) → m ≤ greatest_numeral → n ≤ greatest_numeral → value o.formula m n ≡ Value k → k ≤ greatest_numeral

-- the numbers that stand in a formula are numerals
abbrev pub HasNumerals : Expr → Type 0
HasNumerals (arg b) = Unit {0}
HasNumerals (lit n) = n ≤ greatest_numeral
HasNumerals (add f g) = HasNumerals f × HasNumerals g
HasNumerals (mul f g) = HasNumerals f × HasNumerals g
HasNumerals (monus f g) = HasNumerals f × HasNumerals g
HasNumerals (quo f g) = HasNumerals f × HasNumerals g
HasNumerals (rem f g) = HasNumerals f × HasNumerals g
HasNumerals (gcd f g) = HasNumerals f × HasNumerals g
HasNumerals (min_of f g) = HasNumerals f × HasNumerals g
HasNumerals (max_of f g) = HasNumerals f × HasNumerals g
HasNumerals (pow f g) = HasNumerals f × HasNumerals g
HasNumerals (if_less f g x y) = HasNumerals f × HasNumerals g × HasNumerals x × HasNumerals y
