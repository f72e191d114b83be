use Rattle.std.proofs.Common.{◌≡◌, ℕ, ◌^◌, ◌<◌, ◌≤◌, List, [], ◌∷◌, zero, suc, length, get_or, Bool, true, false, Err, ◌⊎◌, inl, inr, rules, refl, sym, ap, ◌∙◌, subst, arith, cond}
use Rattle.std.specs.Prelude.{nat_lt, nat_le, ◌&&◌, not, ◌==◌}
use Rattle.std.specs.Char.{is_ascii_digit}
use Rattle.std.specs.List.{list_all}
use Rattle.std.specs.Str.{IsAscii}
use Rattle.std.specs.Str.Parse.{digits_value, ParsesUnsigned}
use Rattle.std.proofs.lemmas.Bool.{cases_lt, and_parts, and_right, not-true, eqb-false, le-ltb, leb-true}
use Rattle.std.proofs.lemmas.Str.{IsUtf8-from_ascii}
use Rattle.std.proofs.lemmas.Str.Parse.{IsNumeralModel, numerals_by_value, parse_digits}
use Rattle.mau_making.specs.Counted.{number_in as number}
use Rattle.mau_making.proofs.counting.number_in.Goals as goal

own : IsNumeralModel (λ ds. list_all is_ascii_digit ds ≡ true) (digits_value 10)
own = numerals_by_value (λ ds. list_all is_ascii_digit ds ≡ true) (search rules)

-- a digit is ASCII
digit : (b : ℕ) → is_ascii_digit b ≡ true → b < 128
digit b is = let k : b ≤ 57 = leb-true b 57 (and_parts (nat_le 48 b) (nat_le b 57) is).1 in omega (arith, k)

are_ascii : (bs : List ℕ) → list_all is_ascii_digit bs ≡ true → IsAscii bs
are_ascii [] all i = omega arith
are_ascii (b ∷ bs) all zero = digit b ((and_parts (is_ascii_digit b) _ all).0)
are_ascii (b ∷ bs) all (suc i) = are_ascii bs (and_parts (is_ascii_digit b) _ all).1 i

none_read : {E : Type 0} (bs : List ℕ) (e : E) → (length bs == 0) ≡ false → list_all is_ascii_digit bs ≡ true → ParsesUnsigned 64 10 bs (Err e) → 0 ≡ number bs
none_read bs e some all h = by (cases_lt (digits_value 10 bs) (2 ^ 64))
  where
    by : (digits_value 10 bs < 2 ^ 64) ⊎ (2 ^ 64 ≤ digits_value 10 bs) → 0 ≡ number bs
    by (inl s) = absurd (parse_digits own 64 bs (Err e) h all (let none : length bs ≡ 0 → ⊥ = eqb-false (length bs) 0 some in omega arith, s))
    by (inr s) = ap (λ b. cond b (digits_value 10 bs) 0) (sym (and_right (not (length bs == 0) && list_all is_ascii_digit bs) _ (le-ltb _ _ s)))

pub returns-in-Err : goal.returns-in-Err
returns-in-Err c = absurd (c.in-Err.ensures.cases.0 (IsUtf8-from_ascii c.args.bytes.now (are_ascii c.args.bytes.now (sym c.are_all_digits.ensures ∙ c.if-not-are_all_digits.false))))

pub returns-in-Err-parse : goal.returns-in-Err-parse
returns-in-Err-parse c = none_read c.args.bytes.now c.in-Err-parse.field-0 (sym c.is_empty.ensures ∙ c.if-is_empty.false) (sym c.are_all_digits.ensures ∙ c.if-not-are_all_digits.false) (subst (λ bs. ParsesUnsigned 64 10 bs (Err c.in-Err-parse.field-0)) c.in-Ok.ensures.cases.0 c.in-Err-parse.ensures.value.0)
