-- A formula of numerals gives numerals for numerals.
use Rattle.std.proofs.Common.{◌≡◌, ℕ, zero, suc, ◌+◌, ◌-◌, ◌*◌, ◌/◌, ◌%◌, ◌^◌, ◌<◌, ◌≤◌, ◌==◌, min, max, Bool, true, false, ◌&&◌, inl, inr, ◌⊎◌, refl, subst, arith, eqb-true, lit≤, if◌then◌else◌}
use Rattle.std.specs.Prelude.{nat_lt}
use Rattle.std.proofs.lemmas.Bool.{ltb-true, and_parts, cases_lt}
use Rattle.std.proofs.lemmas.Nat.{mod_below}
use Rattle.std.proofs.Math.Nat.{div-le_self}
use Rattle.std.proofs.lemmas.Nat.Gcd.{le_of_dvd, dvd_of_mod-eq-zero}
use Rattle.mau_terms.specs.Norm.{greatest_numeral}
use Rattle.mau_formula.specs.Divisor.{divides, greatest, gcd_of}
use Rattle.mau_formula.specs.Native.{native_operator, formula_of}
use Rattle.mau_formula.specs.declared.native.Native.{Native}
use Rattle.mau_formula.specs.declared.native.Native.TheVariants.{Sum, Product, Difference, Quotient, Remainder, Power, GreatestCommonDivisor, Minimum, Maximum, Less, LessOrEqual, Greater, GreaterOrEqual}
use Rattle.mau_formula.specs.Expr.{Expr, arg, lit, add, mul, monus, quo, rem, gcd, min_of, max_of, pow, if_less, fitting, divided, on_values, value}
use Rattle.mau_formula.specs.declared.formula.HookAnswer.{HookAnswer}
use Rattle.mau_formula.specs.declared.formula.HookAnswer.TheVariants.{Value, NoValue, Overflow}
use Rattle.mau_built_ins.specs.NativeNumerals.{HasNumerals}
use Rattle.mau_built_ins.specs.Laws.{LiteralsGiveNumerals, NativesGiveNumerals}

-- ---- numbers that are not above

greatest_passes : (test : ℕ → Bool) (n : ℕ) → (greatest test n ≡ 0) ⊎ (test (greatest test n) ≡ true)
unfolding greatest
greatest_passes test zero = inl refl
greatest_passes test (suc n) = by (test (suc n)) refl (greatest_passes test n)
  where
    by : (b : Bool) → test (suc n) ≡ b → (greatest test n ≡ 0) ⊎ (test (greatest test n) ≡ true) → ((if b then suc n else greatest test n) ≡ 0) ⊎ (test (if b then suc n else greatest test n) ≡ true)
    by true e h = inr e
    by false e h = h

greatest_below : (test : ℕ → Bool) (n : ℕ) → greatest test n ≤ n
unfolding greatest
greatest_below test zero = omega arith
greatest_below test (suc n) = by (test (suc n)) (greatest_below test n)
  where
    by : (b : Bool) → greatest test n ≤ n → (if b then suc n else greatest test n) ≤ suc n
    by true h = omega arith
    by false h = omega arith

gcd_below : (a b n : ℕ) → a ≤ n → b ≤ n → gcd_of a b ≤ n
gcd_below a b n la lb = by (greatest_passes (λ d. divides d a && divides d b) (a + b)) (cases_lt 0 a) (cases_lt 0 b)
  where
    by : (gcd_of a b ≡ 0) ⊎ ((divides (gcd_of a b) a && divides (gcd_of a b) b) ≡ true) → (0 < a) ⊎ (a ≤ 0) → (0 < b) ⊎ (b ≤ 0) → gcd_of a b ≤ n
    by (inl e) p q = omega arith
    by (inr e) (inl p) q = omega (arith, le_of_dvd p (dvd_of_mod-eq-zero (gcd_of a b) (eqb-true _ _ (and_parts (divides (gcd_of a b) a) (divides (gcd_of a b) b) e).0)))
    by (inr e) (inr p) (inl q) = omega (arith, le_of_dvd q (dvd_of_mod-eq-zero (gcd_of a b) (eqb-true _ _ (and_parts (divides (gcd_of a b) a) (divides (gcd_of a b) b) e).1)))
    by (inr e) (inr p) (inr q) = omega (arith, greatest_below (λ d. divides d a && divides d b) (a + b))

-- ---- answers

is_value : (m n : ℕ) → Value m ≡ Value n → m ≡ n
is_value m n e = cc

fitting_below : (n k : ℕ) → fitting n ≡ Value k → k ≤ greatest_numeral
fitting_below n k e = by (nat_lt n (2 ^ 128)) refl e
  where
    by : (b : Bool) → nat_lt n (2 ^ 128) ≡ b → (if b then Value n else Overflow) ≡ Value k → k ≤ greatest_numeral
    by true l d = omega (arith, ltb-true n (2 ^ 128) l, is_value n k d)
    by false l d = cc

divided_below : (n q k : ℕ) → (0 < n → q ≤ greatest_numeral) → divided n q ≡ Value k → k ≤ greatest_numeral
divided_below n q k h e = by (n == 0) refl e
  where
    by : (b : Bool) → (n == 0) ≡ b → (if b then NoValue else Value q) ≡ Value k → k ≤ greatest_numeral
    by true l d = cc
    by false l d = subst (λ z. z ≤ greatest_numeral) (is_value q k d) (h (above n l))
      where
        above : (n : ℕ) → (n == 0) ≡ false → 0 < n
        above zero d = cc
        above (suc n) d = omega arith

-- of two values
of_values : (r s : HookAnswer) (f : ℕ → ℕ → HookAnswer) (k : ℕ) → ((a b : ℕ) → r ≡ Value a → s ≡ Value b → f a b ≡ Value k → k ≤ greatest_numeral) → on_values r s f ≡ Value k → k ≤ greatest_numeral
of_values NoValue s f k h e = cc
of_values Overflow s f k h e = cc
of_values (Value a) NoValue f k h e = cc
of_values (Value a) Overflow f k h e = cc
of_values (Value a) (Value b) f k h e = h a b refl refl e

module _ (m n : ℕ) (lm : m ≤ greatest_numeral) (ln : n ≤ greatest_numeral) where
  abbrev Fits : HookAnswer → Type 0
  Fits r = (k : ℕ) → r ≡ Value k → k ≤ greatest_numeral

  value_fits : (e : Expr) → HasNumerals e → Fits (value e m n)
  value_fits (arg false) h k e = subst (λ z. z ≤ greatest_numeral) (is_value m k e) lm
  value_fits (arg true) h k e = subst (λ z. z ≤ greatest_numeral) (is_value n k e) ln
  value_fits (lit x) h k e = subst (λ z. z ≤ greatest_numeral) (is_value x k e) h
  value_fits (add f g) h k e = of_values (value f m n) (value g m n) (λ a b. fitting (a + b)) k (λ a b p q d. fitting_below (a + b) k d) e
  value_fits (mul f g) h k e = of_values (value f m n) (value g m n) (λ a b. fitting (a * b)) k (λ a b p q d. fitting_below (a * b) k d) e
  value_fits (pow f g) h k e = of_values (value f m n) (value g m n) (λ a b. fitting (a ^ b)) k (λ a b p q d. fitting_below (a ^ b) k d) e
  value_fits (monus f g) h k e =
      of_values (value f m n) (value g m n) (λ a b. Value (a - b)) k (λ a b p q d. let l = value_fits f h.0 a p in subst (λ z. z ≤ greatest_numeral) (is_value (a - b) k d) (omega arith)) e
  value_fits (quo f g) h k e =
      of_values (value f m n) (value g m n) (λ a b. divided b (a / b)) k (λ a b p q d. divided_below b (a / b) k (λ z. let l = value_fits f h.0 a p in omega (arith, div-le_self a b)) d) e
  value_fits (rem f g) h k e =
      of_values (value f m n) (value g m n) (λ a b. divided b (a % b)) k (λ a b p q d. divided_below b (a % b) k (λ z. let l = value_fits g h.1 b q in omega (arith, mod_below a b z)) d) e
  value_fits (gcd f g) h k e =
      of_values (value f m n) (value g m n) (λ a b. Value (gcd_of a b)) k
      (λ a b p q d. subst (λ z. z ≤ greatest_numeral) (is_value (gcd_of a b) k d) (gcd_below a b greatest_numeral (value_fits f h.0 a p) (value_fits g h.1 b q))) e
  value_fits (min_of f g) h k e =
      of_values (value f m n) (value g m n) (λ a b. Value (min a b)) k (λ a b p q d. let l = value_fits f h.0 a p in subst (λ z. z ≤ greatest_numeral) (is_value (min a b) k d) (omega arith)) e
  value_fits (max_of f g) h k e =
      of_values (value f m n) (value g m n) (λ a b. Value (max a b)) k
      (λ a b p q d. let l = value_fits f h.0 a p in let r = value_fits g h.1 b q in subst (λ z. z ≤ greatest_numeral) (is_value (max a b) k d) (omega arith)) e
  value_fits (if_less f g x y) h k e =
      of_values (value f m n) (value g m n) (λ a b. if nat_lt a b then value x m n else value y m n) k (λ a b p q d. either (nat_lt a b) (value_fits x h.2) (value_fits y h.3) d) e
    where
      either : (b : Bool) → Fits (value x m n) → Fits (value y m n) → (if b then value x m n else value y m n) ≡ Value k → k ≤ greatest_numeral
      either true s t d = s k d
      either false s t d = t k d

pub literals_give_numerals : LiteralsGiveNumerals
literals_give_numerals o h m n k lm ln e = value_fits m n lm ln o.formula h k e

pub natives_give_numerals : NativesGiveNumerals
natives_give_numerals n = literals_give_numerals (native_operator n) (small n)
  where
    small : (n : Native) → HasNumerals (formula_of n)
    small Sum = (tt, tt)
    small Product = (tt, tt)
    small Difference = ((tt, tt), (tt, tt))
    small Quotient = (tt, tt)
    small Remainder = (tt, tt)
    small Power = (tt, tt)
    small GreatestCommonDivisor = (tt, tt)
    small Minimum = (tt, tt)
    small Maximum = (tt, tt)
    small Less = (tt, tt, lit≤ tt, lit≤ tt)
    small LessOrEqual = (tt, tt, lit≤ tt, lit≤ tt)
    small Greater = (tt, tt, lit≤ tt, lit≤ tt)
    small GreaterOrEqual = (tt, tt, lit≤ tt, lit≤ tt)
