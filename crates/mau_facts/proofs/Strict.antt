-- Where numbers are read as they stand, a word is read as a field exactly where it is the word of this field.
use Rattle.std.proofs.Common.{◌≡◌, ℕ, ◌-◌, ◌^◌, ◌<◌, ◌≤◌, List, [], ◌∷◌, Bool, true, false, cond, None, Result, Ok, Err, decimal, refl, sym, ap, ◌∙◌, arith, nat_lt}
use Rattle.std.specs.Str.Parse.{digits_value}
use Rattle.std.proofs.lemmas.Bool.{and_left, and_parts, le-ltb, lt-ltb, ltb-true}
use Rattle.mau_facts.specs.declared.fault.LineFault.{LineFault}
use Rattle.mau_facts.specs.declared.fault.LineFault.TheVariants.{Unexpected, BadNumber}
use Rattle.mau_facts.specs.declared.fields.Range.{Range}
use Rattle.mau_facts.specs.declared.fields.Range.TheVariants.{Small, Term, Fact, NextTerm, NextFact}
use Rattle.mau_facts.specs.declared.fields.Limits.{Limits}
use Rattle.mau_numerals.specs.Numerals.{is_numeral, number_up_to}
use Rattle.mau_facts.specs.LineReading.{number_in, great_in}
use Rattle.mau_facts.specs.Fields.{Field, word, number, numeral, name, variable, in_range, IsWordOf, AreWordsOf}
use Rattle.mau_numerals.proofs.Numbers.{great}
use Rattle.mau_numerals.proofs.Decimals.{decimal-numeral, decimal-value, numeral-decimal}
use Rattle.mau_facts.proofs.FieldsRead.{IsReadAs}

-- a word as a number that passes a test, where the reader may be lenient
abbrev pub tested : Bool → (ℕ → Bool) → List ℕ → Result ℕ LineFault
tested lenient test w = cond (is_numeral w) (cond lenient (Ok 0) (cond (test (digits_value 10 w)) (Ok (digits_value 10 w)) (Err BadNumber))) (Err Unexpected)

abbrev done : ℕ → Result ℕ LineFault
done n = Ok n

-- a numeral that fails the test is a bad number
pub bad_number : (lenient : Bool) (test : ℕ → Bool) (w : List ℕ) → is_numeral w ≡ true → lenient ≡ false → test (digits_value 10 w) ≡ false → tested lenient test w ≡ Err BadNumber
bad_number lenient test w n s e =
    ap (λ b. cond b (cond lenient (Ok 0) (cond (test (digits_value 10 w)) (Ok (digits_value 10 w)) (Err BadNumber))) (Err Unexpected)) n
    ∙ ap (λ b. cond b (Ok 0) (cond (test (digits_value 10 w)) (Ok (digits_value 10 w)) (Err BadNumber))) s
    ∙ ap (λ b. cond b (Ok (digits_value 10 w)) (Err BadNumber)) e

-- a number of 128 bits or more is in no range
pub too_great : (terms facts : ℕ) (r : Range) (w : List ℕ) → is_numeral w ≡ true → None ≡ number_up_to (2 ^ 128 - 1) w → in_range terms facts r (digits_value 10 w) ≡ false
too_great terms facts r w n e = over r (great (2 ^ 128 - 1) w n e)
  where
    over : (r : Range) → 2 ^ 128 - 1 < digits_value 10 w → in_range terms facts r (digits_value 10 w) ≡ false
    over Small h = le-ltb (digits_value 10 w) 4294967296 (omega arith)
    over Term h = and_left (nat_lt (digits_value 10 w) 18446744073709551616) _ (le-ltb (digits_value 10 w) 18446744073709551616 (omega arith))
    over NextTerm h = and_left (nat_lt (digits_value 10 w) 18446744073709551616) _ (le-ltb (digits_value 10 w) 18446744073709551616 (omega arith))
    over NextFact h = and_left (nat_lt (digits_value 10 w) 18446744073709551616) _ (le-ltb (digits_value 10 w) 18446744073709551616 (omega arith))
    over Fact h = and_left (nat_lt (digits_value 10 w) 18446744073709551616) _ (le-ltb (digits_value 10 w) 18446744073709551616 (omega arith))

pub below : (terms facts : ℕ) (r : Range) (n : ℕ) → in_range terms facts r n ≡ true → n < 2 ^ 64
below terms facts Small n e = let h = ltb-true n 4294967296 e in omega arith
below terms facts Term n e = ltb-true n 18446744073709551616 (and_parts _ _ e).0
below terms facts Fact n e = ltb-true n 18446744073709551616 (and_parts _ _ e).0
below terms facts NextTerm n e = ltb-true n 18446744073709551616 (and_parts _ _ e).0
below terms facts NextFact n e = ltb-true n 18446744073709551616 (and_parts _ _ e).0

-- the test holds of decimals alone
abbrev IsWithin : (ℕ → Bool) → Type 0
IsWithin test = (n : ℕ) → test n ≡ true → n < 10 ^ 64

-- a number that passes, in decimal, is read
decimal_read : (lenient : Bool) (test : ℕ → Bool) (n : ℕ) → IsWithin test → lenient ≡ false → test n ≡ true → tested lenient test (decimal n) ≡ Ok n
decimal_read lenient test n within s e =
    let h = within n e in
    let v = decimal-value n h in
    ap (λ b. cond b (cond lenient (Ok 0) (cond (test (digits_value 10 (decimal n))) (Ok (digits_value 10 (decimal n))) (Err BadNumber))) (Err Unexpected)) (decimal-numeral n h)
    ∙ ap (λ b. cond b (Ok 0) (cond (test (digits_value 10 (decimal n))) (Ok (digits_value 10 (decimal n))) (Err BadNumber))) s
    ∙ ap (λ m. cond (test m) (Ok m) (Err BadNumber)) v
    ∙ ap (λ b. cond b (Ok n) (Err BadNumber)) e

-- a word that is read as a number is its decimal
number_is : (lenient : Bool) (test : ℕ → Bool) (w : List ℕ) (n : ℕ) → IsWithin test → lenient ≡ false → tested lenient test w ≡ Ok n → (w ≡ decimal n) × (test n ≡ true)
number_is lenient test w n within s e = by (is_numeral w) (test (digits_value 10 w)) refl refl (ap (λ b. cond (is_numeral w) (cond b (Ok 0) (cond (test (digits_value 10 w)) (Ok (digits_value 10 w)) (Err BadNumber))) (Err Unexpected)) (sym s) ∙ e)
  where
    ok_is : (a b : ℕ) → done a ≡ done b → a ≡ b
    ok_is a b h = cc

    by : (b c : Bool) → is_numeral w ≡ b → test (digits_value 10 w) ≡ c → cond b (cond c (Ok (digits_value 10 w)) (Err BadNumber)) (Err Unexpected) ≡ Ok n → (w ≡ decimal n) × (test n ≡ true)
    by false c i j h = absurd cc
    by true false i j h = absurd cc
    by true true i j h =
        let v = ok_is (digits_value 10 w) n h in
        (numeral-decimal w i (within (digits_value 10 w) j) ∙ ap decimal v, ap test (sym v) ∙ j)

range_within : (terms facts : ℕ) (r : Range) → IsWithin (in_range terms facts r)
range_within terms facts r n e = let h = below terms facts r n e in omega arith

great_within : IsWithin (λ n. nat_lt n (2 ^ 128))
great_within n e = let h = ltb-true n (2 ^ 128) e in omega arith

module _ (l : Limits) (strict : l.lenient ≡ false) where
  pub is_word_of : (f : Field) (w : List ℕ) → IsReadAs l f w → IsWordOf l.terms l.facts f w
  is_word_of (word v) w h = (h, tt)
  is_word_of (number r n) w h = number_is l.lenient (in_range l.terms l.facts r) w n (range_within l.terms l.facts r) strict h
  is_word_of (numeral n) w h = let p = number_is l.lenient (λ n. nat_lt n (2 ^ 128)) w n great_within strict h in (p.0, ltb-true n (2 ^ 128) p.1)
  is_word_of (name v) w h = h
  is_word_of (variable v) w h = h

  pub is_read_as : (f : Field) (w : List ℕ) → IsWordOf l.terms l.facts f w → IsReadAs l f w
  is_read_as (word v) w h = h.0
  is_read_as (number r n) w h = ap (number_in l r) h.0 ∙ decimal_read l.lenient (in_range l.terms l.facts r) n (range_within l.terms l.facts r) strict h.1
  is_read_as (numeral n) w h = ap (great_in l) h.0 ∙ decimal_read l.lenient (λ n. nat_lt n (2 ^ 128)) n great_within strict (lt-ltb n (2 ^ 128) h.1)
  is_read_as (name v) w h = h
  is_read_as (variable v) w h = h

  pub are_words_of : (fs : List Field) (ws : List (List ℕ)) → AreWordsOf (IsReadAs l) fs ws → AreWordsOf (IsWordOf l.terms l.facts) fs ws
  are_words_of [] [] h = tt
  are_words_of [] (w ∷ ws) h = absurd h
  are_words_of (f ∷ fs) [] h = absurd h
  are_words_of (f ∷ fs) (w ∷ ws) h = (is_word_of f w h.0, are_words_of fs ws h.1)

  pub are_read : (fs : List Field) (ws : List (List ℕ)) → AreWordsOf (IsWordOf l.terms l.facts) fs ws → AreWordsOf (IsReadAs l) fs ws
  are_read [] [] h = tt
  are_read [] (w ∷ ws) h = absurd h
  are_read (f ∷ fs) [] h = absurd h
  are_read (f ∷ fs) (w ∷ ws) h = (is_read_as f w h.0, are_read fs ws h.1)
