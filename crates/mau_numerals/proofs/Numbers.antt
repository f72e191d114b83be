-- What it says of a text that it is no number up to a limit.
use Rattle.std.proofs.Common.{◌≡◌, ℕ, ◌^◌, ◌<◌, ◌≤◌, List, length, true, cond, nat_le, Some, None, ◌⊎◌, inl, inr, rules, Err, sym, ap, ◌∙◌, arith}
use Rattle.std.proofs.lemmas.Bool.{cases_lt, and_from, and_parts, and_right, not-true, eqb-false, lt-leb, le-leb}
use Rattle.std.proofs.lemmas.Option.{none-some}
use Rattle.std.proofs.lemmas.Fmt.{IsAscii-from_digits}
use Rattle.std.proofs.lemmas.Str.Parse.{IsNumeralModel, numerals_by_value, parse_digits}
use Rattle.std.specs.Char.{is_ascii_digit}
use Rattle.std.specs.List.{list_all}
use Rattle.std.specs.Str.{IsAscii}
use Rattle.std.specs.Str.Parse.{digits_value, ParsesUnsigned}
use Rattle.mau_numerals.specs.Numerals.{is_numeral, number_up_to}

pub own : IsNumeralModel (λ ds. list_all is_ascii_digit ds ≡ true) (digits_value 10)
own = numerals_by_value (λ ds. list_all is_ascii_digit ds ≡ true) (search rules)

pub digits_are_ascii : (w : List ℕ) → list_all is_ascii_digit w ≡ true → IsAscii w
digits_are_ascii w h = IsAscii-from_digits w (own.to w h)

-- it is no number up to a limit where its value is above it
above_none : (limit : ℕ) (w : List ℕ) → limit < digits_value 10 w → None ≡ number_up_to limit w
above_none limit w h = sym (ap (λ b. cond b (Some (digits_value 10 w)) None) (and_right (is_numeral w) _ (lt-leb _ _ h)))

-- a numeral that does not read as a number of so many bits is no number up to a limit of so many bits
pub too_large : {E : Type 0} (bits limit : ℕ) (w : List ℕ) (e : E) → is_numeral w ≡ true → ParsesUnsigned bits 10 w (Err e) → limit < 2 ^ bits → None ≡ number_up_to limit w
too_large bits limit w e n h l = above_none limit w (over (cases_lt (digits_value 10 w) (2 ^ bits)))
  where
    some : 0 < length w
    some =
        let none : length w ≡ 0 → ⊥ = eqb-false (length w) 0 (not-true _ (and_parts _ _ (and_parts _ _ n).0).0) in
        omega arith

    over : (digits_value 10 w < 2 ^ bits) ⊎ (2 ^ bits ≤ digits_value 10 w) → limit < digits_value 10 w
    over (inl s) = absurd (parse_digits own bits w (Err e) h (and_parts _ _ n).1 (some, s))
    over (inr s) = omega arith

-- a numeral that is no number up to a limit is above it
pub great : (limit : ℕ) (w : List ℕ) → is_numeral w ≡ true → None ≡ number_up_to limit w → limit < digits_value 10 w
great limit w n e = by (cases_lt limit (digits_value 10 w))
  where
    by : (limit < digits_value 10 w) ⊎ (digits_value 10 w ≤ limit) → limit < digits_value 10 w
    by (inl h) = h
    by (inr h) = absurd (none-some (digits_value 10 w) (e ∙ ap (λ b. cond b (Some (digits_value 10 w)) None) (and_from (is_numeral w) (nat_le (digits_value 10 w) limit) n (le-leb _ _ h))))
