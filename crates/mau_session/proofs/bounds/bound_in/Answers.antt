use Rattle.std.proofs.Common.{◌≡◌, ℕ, ◌^◌, ◌<◌, ◌≤◌, List, length, true, None, Err, ◌⊎◌, inl, inr, rules, sym, ap, ◌∙◌, arith, cond, Some}
use Rattle.std.specs.Char.{is_ascii_digit}
use Rattle.std.specs.List.{list_all}
use Rattle.std.specs.Str.Parse.{digits_value, ParsesUnsigned}
use Rattle.std.specs.Prelude.{nat_le}
use Rattle.std.proofs.lemmas.Bool.{cases_lt, and_parts, and_right, not-true, eqb-false, lt-leb}
use Rattle.std.proofs.lemmas.Str.Parse.{IsNumeralModel, numerals_by_value, parse_digits}
use Rattle.mau_session.specs.Bounds.{are_digits, bound_in as bound}
use Rattle.mau_session.proofs.bounds.bound_in.Goals as goal

own : IsNumeralModel (λ ds. list_all is_ascii_digit ds ≡ true) (digits_value 10)
own = numerals_by_value (λ ds. list_all is_ascii_digit ds ≡ true) (search rules)

-- decimal digits that do not read as a number of 64 bits are out of range
too_large : {E : Type 0} (t : List ℕ) (e : E) → are_digits t ≡ true → ParsesUnsigned 64 10 t (Err e) → None ≡ bound t
too_large t e n h = ap (λ b. cond b (Some (digits_value 10 t)) None) (sym (and_right (are_digits t) _ (and_right (nat_le 1 (digits_value 10 t)) _ (lt-leb _ _ (over (cases_lt (digits_value 10 t) (2 ^ 64)))))))
  where
    some : 0 < length t
    some =
        let none : length t ≡ 0 → ⊥ = eqb-false (length t) 0 (not-true _ (and_parts _ _ n).0) in
        omega arith

    over : (digits_value 10 t < 2 ^ 64) ⊎ (2 ^ 64 ≤ digits_value 10 t) → 1000000000000 < digits_value 10 t
    over (inl s) = absurd (parse_digits own 64 t (Err e) h (and_parts _ _ n).1 (some, s))
    over (inr s) = omega arith

pub returns-in-Err : goal.returns-in-Err
returns-in-Err c = too_large c.args.text.now c.in-Err.field-0 (sym c.are_digits.ensures ∙ c.if-not-are_digits.false) c.in-Err.ensures.value.0
