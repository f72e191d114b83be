-- The decimal of a number is the one numeral that has its value.
use Rattle.std.proofs.Common.{◌≡◌, ◌≢◌, ℕ, zero, suc, lit<, refl, not, ◌&&◌, ◌==◌, decimal, ◌+◌, ◌*◌, ◌/◌, ◌%◌, ◌^◌, ◌<◌, ◌≤◌, List, [], ◌∷◌, ◌++◌, length, true, false, sym, ap, ◌∙◌, subst, arith, nat_lt, nat_le}
use Rattle.std.proofs.lemmas.Bool.{lt-ltb, and_from, and_parts, and_right, not-true}
use Rattle.std.proofs.lemmas.Bool.Decides.{nat_tests}
use Rattle.std.proofs.lemmas.List.{length_push}
use Rattle.std.proofs.lemmas.List.Folds.{list_all-append}
use Rattle.std.proofs.lemmas.Fmt.{decimal_by_steps_wide, decimal_is_IsNumeral_wide}
use Rattle.std.proofs.lemmas.Int.Digits.{digits_value_push}
use Rattle.std.proofs.lemmas.Str.{digit_value_digit}
use Rattle.std.specs.Char.{is_ascii_digit, digit_value}
use Rattle.std.specs.List.{list_all}
use Rattle.std.specs.Str.Parse.{digits_value, digits_value_after}
use Rattle.mau_numerals.specs.Numerals.{has_leading_zero, is_numeral}
use Rattle.mau_numerals.proofs.Numbers.{own}

-- ---- the decimal of a number is a numeral

-- the first digit of n is no zero, and n below ten has one digit
record Leads (n : ℕ) (ds : List ℕ) : Type 0 where
  first : ℕ
  others : List ℕ
  split : ds ≡ first ∷ others
  leading : 0 < n → first ≢ 48
  single : n < 10 → others ≡ []

one_leads : (n : ℕ) → n < 10 → Leads n ((48 + n) ∷ [])
one_leads n h = record { first = 48 + n; others = []; split = refl; leading = λ p. omega arith; single = λ p. refl }

more_lead : (n : ℕ) (ds : List ℕ) → 10 ≤ n → Leads (n / 10) ds → Leads n (ds ++ (48 + n % 10) ∷ [])
more_lead n ds h d = record {
  first = d.first;
  others = d.others ++ (48 + n % 10) ∷ [];
  split = ap (λ es. es ++ (48 + n % 10) ∷ []) d.split;
  leading = λ p. d.leading (omega arith);
  single = λ p. absurd (omega arith);
}

no_zero : (n : ℕ) (ds : List ℕ) → Leads n ds → has_leading_zero ds ≡ false
no_zero n ds d = ap has_leading_zero d.split ∙ by n d.first d.others d.leading d.single
  where
    by : (n b : ℕ) (bs : List ℕ) → (0 < n → b ≢ 48) → (n < 10 → bs ≡ []) → has_leading_zero (b ∷ bs) ≡ false
    by zero b bs f s = ap (λ cs. has_leading_zero (b ∷ cs)) (s (lit< tt))
    by (suc n) b bs f s = let ne : (b == 48) ≡ false = grind (arith, nat_tests, f (omega arith)) in and_right (nat_lt 1 (length (b ∷ bs))) (b == 48) ne

pub decimal-numeral : (n : ℕ) → n < 10 ^ 64 → is_numeral (decimal n) ≡ true
decimal-numeral n h =
    let p = decimal_is_IsNumeral_wide n h in
    let some : not (length (decimal n) == 0) ≡ true = (let q = p.0.0 in grind (arith, nat_tests, q)) in
    and_from _ _ (and_from _ _ some (ap not (no_zero n (decimal n) (decimal_by_steps_wide Leads one_leads more_lead n h)))) (own.from (decimal n) p.0.1)

pub decimal-value : (n : ℕ) → n < 10 ^ 64 → digits_value 10 (decimal n) ≡ n
decimal-value n h = (decimal_is_IsNumeral_wide n h).1

pub decimal-injective : (m n : ℕ) → m < 10 ^ 64 → n < 10 ^ 64 → decimal m ≡ decimal n → m ≡ n
decimal-injective m n h k e = sym (decimal-value m h) ∙ ap (digits_value 10) e ∙ decimal-value n k

pub decimal-digits : (n : ℕ) → n < 10 ^ 64 → list_all is_ascii_digit (decimal n) ≡ true
decimal-digits n h = (and_parts _ _ (decimal-numeral n h)).1

-- ---- a numeral is the decimal of its value

-- a list, cut before its last element
record Last (w : List ℕ) : Type 0 where
  front : List ℕ
  last : ℕ
  split : w ≡ front ++ last ∷ []

last_of : (c : ℕ) (cs : List ℕ) → Last (c ∷ cs)
last_of c [] = record { front = []; last = c; split = refl }
last_of c (d ∷ ds) = let l = last_of d ds in record { front = c ∷ l.front; last = l.last; split = ap (λ w. c ∷ w) l.split }

pub digit_low : (c : ℕ) → is_ascii_digit c ≡ true → (48 ≤ c) × (c < 58)
digit_low c h = let p = and_parts (nat_le 48 c) (nat_le c 57) h in (grind (arith, nat_tests, p.0), grind (arith, nat_tests, p.1))

digit_is : (c : ℕ) → is_ascii_digit c ≡ true → digit_value c + 48 ≡ c
digit_is c h = let b = digit_low c h in digit_value_digit c (b.0, omega (arith, b.1))

value_grows : (n : ℕ) (ds : List ℕ) → n ≤ digits_value_after 10 n ds
value_grows n [] = omega arith
value_grows n (d ∷ ds) = let g = value_grows (n * 10 + digit_value d) ds in omega arith

-- the digits of a numeral: the first is no zero where there are more
record Digits (c : ℕ) (cs : List ℕ) : Type 0 where
  first : is_ascii_digit c ≡ true
  others : list_all is_ascii_digit cs ≡ true
  leading : 0 < length cs → c ≢ 48

digits_of : (c : ℕ) (cs : List ℕ) → is_numeral (c ∷ cs) ≡ true → Digits c cs
digits_of c cs h =
    let p = and_parts (not (length (c ∷ cs) == 0) && not (has_leading_zero (c ∷ cs))) (list_all is_ascii_digit (c ∷ cs)) h in
    let q = and_parts (is_ascii_digit c) (list_all is_ascii_digit cs) p.1 in
    let z : (nat_lt 1 (length (c ∷ cs)) && c == 48) ≡ false = not-true (has_leading_zero (c ∷ cs)) (and_parts (not (length (c ∷ cs) == 0)) (not (has_leading_zero (c ∷ cs))) p.0).1 in
    record { first = q.0; others = q.1; leading = λ some e. differ (sym (and_from (nat_lt 1 (length (c ∷ cs))) (c == 48) (lt-ltb 1 (length (c ∷ cs)) (omega arith)) (grind (arith, nat_tests, e))) ∙ z) }
  where
    differ : true ≡ false → ⊥
    differ e = cc

numeral_of : (c : ℕ) (cs : List ℕ) → Digits c cs → is_numeral (c ∷ cs) ≡ true
numeral_of c cs d = and_from _ _ (and_from _ _ (grind (arith, nat_tests)) (ap not (zero_free cs d.leading))) (and_from (is_ascii_digit c) (list_all is_ascii_digit cs) d.first d.others)
  where
    zero_free : (cs : List ℕ) → (0 < length cs → c ≢ 48) → has_leading_zero (c ∷ cs) ≡ false
    zero_free [] h = refl
    zero_free (b ∷ bs) h = let ne : (c == 48) ≡ false = grind (arith, nat_tests, h (omega arith)) in and_right (nat_lt 1 (length (c ∷ b ∷ bs))) (c == 48) ne

-- of the numerals with the value n there is this one alone
abbrev IsOnly : ℕ → List ℕ → Type 0
IsOnly n ds = (w : List ℕ) → is_numeral w ≡ true → digits_value 10 w ≡ n → w ≡ ds

no_numeral : is_numeral [] ≡ true → ⊥
no_numeral e = cc

one_only : (n : ℕ) → n < 10 → IsOnly n ((48 + n) ∷ [])
one_only n h [] k e = absurd (no_numeral k)
one_only n h (c ∷ []) k e = let d = digits_of c [] k in let v = digit_is c d.first in ap (λ x. x ∷ []) (omega (arith, e, v))
one_only n h (c ∷ b ∷ bs) k e =
    let d = digits_of c (b ∷ bs) k in
    let low = digit_low c d.first in
    let v = digit_is c d.first in
    let ne = d.leading (omega arith) in
    let g = value_grows ((0 * 10 + digit_value c) * 10 + digit_value b) bs in
    absurd (omega (arith, g, e, v, ne, low.0))

more_only : (n : ℕ) (ds : List ℕ) → 10 ≤ n → IsOnly (n / 10) ds → IsOnly n (ds ++ (48 + n % 10) ∷ [])
more_only n ds h ih [] k e = absurd (no_numeral k)
more_only n ds h ih (c ∷ cs) k e = let l = last_of c cs in by l.front l.last (subst (λ w. is_numeral w ≡ true) l.split k) (ap (digits_value 10) (sym l.split) ∙ e) l.split
  where
    by : (front : List ℕ) (x : ℕ) → is_numeral (front ++ x ∷ []) ≡ true → digits_value 10 (front ++ x ∷ []) ≡ n → c ∷ cs ≡ front ++ x ∷ [] → c ∷ cs ≡ ds ++ (48 + n % 10) ∷ []
    by [] x m v s = let d = digits_of x [] m in let low = digit_low x d.first in let i = digit_is x d.first in absurd (omega (arith, v, i, low.1))
    by (b ∷ bs) x m v s =
        let d = digits_of b (bs ++ x ∷ []) m in
        let both = and_parts (list_all is_ascii_digit bs) (list_all is_ascii_digit (x ∷ [])) (sym (list_all-append is_ascii_digit bs (x ∷ [])) ∙ d.others) in
        let last : is_ascii_digit x ≡ true = (and_parts (is_ascii_digit x) true both.1).0 in
        let low = digit_low x last in
        let i = digit_is x last in
        let sum : digits_value 10 (b ∷ bs) * 10 + digit_value x ≡ n = sym (digits_value_push 10 (b ∷ bs) x) ∙ v in
        let front = ih (b ∷ bs) (numeral_of b bs (record { first = d.first; others = both.0; leading = λ p. d.leading (omega (arith, length_push bs x)) })) (omega (arith, sum, i, low.0, low.1)) in
        let end : x ≡ 48 + n % 10 = omega (arith, sum, i, low.0, low.1) in
        s ∙ ap (λ w. w ++ x ∷ []) front ∙ ap (λ y. ds ++ y ∷ []) end

pub numeral-decimal : (w : List ℕ) → is_numeral w ≡ true → digits_value 10 w < 10 ^ 64 → w ≡ decimal (digits_value 10 w)
numeral-decimal w h k = decimal_by_steps_wide IsOnly one_only more_only (digits_value 10 w) k w h refl
