-- The native operators on numbers: their names, what they compute, and what their answers stand for.
use Rattle.std.specs.Prelude.{ℕ, List, [], ◌∷◌, true, false, map, codes}
use Rattle.mau_formula.specs.Operator.{Operator}
use Rattle.mau_formula.specs.Expr.{Expr, arg, lit, add, mul, monus, quo, rem, gcd, min_of, max_of, pow, if_less}
use Rattle.mau_formula.specs.declared.formula.Gives.{Gives}
use Rattle.mau_formula.specs.declared.formula.Gives.TheVariants.{Nat, Bool}
use Rattle.mau_formula.specs.declared.native.Native.{Native}
use Rattle.mau_formula.specs.declared.native.Native.TheVariants.{Sum, Product, Difference, Quotient, Remainder, Power, GreatestCommonDivisor, Minimum, Maximum, Less, LessOrEqual, Greater, GreaterOrEqual}

abbrev pub a_part : Expr
a_part = arg false

abbrev pub b_part : Expr
b_part = arg true

-- the formula of each operator, on the first argument a and the second b
abbrev pub formula_of : Native → Expr
formula_of Sum = add a_part b_part
formula_of Product = mul a_part b_part
formula_of Difference = add (monus a_part b_part) (monus b_part a_part)
formula_of Quotient = quo a_part b_part
formula_of Remainder = rem a_part b_part
formula_of Power = pow a_part b_part
formula_of GreatestCommonDivisor = gcd a_part b_part
formula_of Minimum = min_of a_part b_part
formula_of Maximum = max_of a_part b_part
formula_of Less = if_less a_part b_part (lit 1) (lit 0)
formula_of LessOrEqual = if_less b_part a_part (lit 0) (lit 1)
formula_of Greater = if_less b_part a_part (lit 1) (lit 0)
formula_of GreaterOrEqual = if_less a_part b_part (lit 0) (lit 1)

abbrev pub name_of : Native → List ℕ
name_of Sum = codes "nat-add"
name_of Product = codes "nat-mul"
name_of Difference = codes "nat-sd"
name_of Quotient = codes "nat-quo"
name_of Remainder = codes "nat-rem"
name_of Power = codes "nat-pow"
name_of GreatestCommonDivisor = codes "nat-gcd"
name_of Minimum = codes "nat-min"
name_of Maximum = codes "nat-max"
name_of Less = codes "nat-lt"
name_of LessOrEqual = codes "nat-le"
name_of Greater = codes "nat-gt"
name_of GreaterOrEqual = codes "nat-ge"

abbrev pub gives_of : Native → Gives
gives_of Less = Bool
gives_of LessOrEqual = Bool
gives_of Greater = Bool
gives_of GreaterOrEqual = Bool
gives_of _ = Nat

-- all thirteen, and each of them as an operator
abbrev pub natives : List Native
natives = Sum ∷ Product ∷ Difference ∷ Quotient ∷ Remainder ∷ Power ∷ GreatestCommonDivisor ∷ Minimum ∷ Maximum ∷ Less ∷ LessOrEqual ∷ Greater ∷ GreaterOrEqual ∷ []

abbrev pub native_operator : Native → Operator
native_operator n = record { name = name_of n; formula = formula_of n; gives = gives_of n }
