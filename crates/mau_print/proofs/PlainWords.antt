-- Words of a text, by their bytes.
use Rattle.std.proofs.Common.{◌≡◌, ◌≢◌, ℕ, zero, suc, ◌+◌, ◌-◌, ◌<◌, ◌≤◌, ◌==◌, ◌⊎◌, inl, inr, List, [], ◌∷◌, ◌++◌, Bool, true, false, cond, not, ◌&&◌, ◌||◌, length, codes, nat_lt, refl, sym, ap, ap₂, ◌∙◌, arith, eqb-true, eq-eqb, length-append}
use Rattle.std.specs.List.{list_any}
use Rattle.std.proofs.lemmas.Bool.{cases_lt, false_from_ne_true, both_ways, and_parts, and_from, or_cases, or_left, or_right, ne_eqb, ltb-true}
use Rattle.std.proofs.lemmas.List.{get_or-append-add, get_or_append_left}
use Rattle.mau_tokens.specs.Lexeme.{separator, line_comment, block_comment, string, special, word, is_separator, is_special as is_special_byte, is_comment_sign, byte_at, lexeme_of, lexeme_at}
use Rattle.mau_tokens.specs.Ending.{parts_word}
use Rattle.mau_print.specs.Readable.{IsPlain}

-- ---- with what a word begins

-- a and b are neither * nor -
abbrev pub IsNoSign : ℕ → Type 0
IsNoSign b = (b ≢ 42) × (b ≢ 45)

-- the tests of the first bytes
pub record AreFirst (a b c d : Bool) : Type 0 where
  pub gap : a ≡ false
  pub sign : b ≡ false
  pub quote : c ≡ false
  pub mark : d ≡ false

pub first_tests : (gap sign block quote mark : Bool) → cond gap separator (cond sign (cond block block_comment line_comment) (cond quote string (cond mark special word))) ≡ word → AreFirst gap sign quote mark
first_tests true sign block quote mark e = absurd (cc)
first_tests false true true quote mark e = absurd (cc)
first_tests false true false quote mark e = absurd (cc)
first_tests false false block true mark e = absurd (cc)
first_tests false false block false true e = absurd (cc)
first_tests false false block false false e = record { gap = refl; sign = refl; quote = refl; mark = refl }

pub word_by : (gap sign block quote mark : Bool) → AreFirst gap sign quote mark → cond gap separator (cond sign (cond block block_comment line_comment) (cond quote string (cond mark special word))) ≡ word
word_by true sign block quote mark f = absurd (let e = f.gap in cc)
word_by false true block quote mark f = absurd (let e = f.sign in cc)
word_by false false block true mark f = absurd (let e = f.quote in cc)
word_by false false block false true f = absurd (let e = f.mark in cc)
word_by false false block false false f = refl

-- where the first byte begins a word, so it does before other bytes, if there is no sign of a comment
pub begins_again : (a b c d v w u : ℕ) → lexeme_of a b c d ≡ word → (is_comment_sign a v w ≡ true → is_comment_sign a b c ≡ true) → lexeme_of a v w u ≡ word
begins_again a b c d v w u e back =
    let f = first_tests (is_separator a) (is_comment_sign a b c) (d == 40) (a == 34) (is_special_byte a) e in
    let none : is_comment_sign a v w ≡ false = false_from_ne_true _ (λ s. both_ways _ f.sign (back s)) in
    word_by (is_separator a) (is_comment_sign a v w) (u == 40) (a == 34) (is_special_byte a) (record { gap = f.gap; sign = none; quote = f.quote; mark = f.mark })

pub three : (x a b c : ℕ) → (a == x && b == x && c == x) ≡ true → (a ≡ x) × (b ≡ x) × (c ≡ x)
three x a b c e =
    let two = and_parts (a == x && b == x) (c == x) e in
    let one = and_parts (a == x) (b == x) two.0 in
    (eqb-true a x one.0, eqb-true b x one.1, eqb-true c x two.1)

three_back : (x a b c : ℕ) → a ≡ x → b ≡ x → c ≡ x → (a == x && b == x && c == x) ≡ true
three_back x a b c p q r = and_from _ _ (and_from _ _ (eq-eqb a x p) (eq-eqb b x q)) (eq-eqb c x r)

-- a sign of a comment does not reach over a byte that is none of it
sign_within : (u w : List ℕ) (p x : ℕ) → 1 ≤ p → ((k : ℕ) → k < p → byte_at w k ≡ byte_at u k) → byte_at w p ≢ x → (byte_at w 0 == x && byte_at w 1 == x && byte_at w 2 == x) ≡ true → (byte_at u 0 == x && byte_at u 1 == x && byte_at u 2 == x) ≡ true
sign_within u w zero x some same stop e = absurd (omega arith)
sign_within u w (suc zero) x some same stop e = absurd (stop ((three x _ _ _ e).1))
sign_within u w (suc (suc zero)) x some same stop e = absurd (stop ((three x _ _ _ e).2))
sign_within u w (suc (suc (suc p))) x some same stop e =
    let t = three x _ _ _ e in
    three_back x _ _ _ (sym (same 0 (omega arith)) ∙ t.0) (sym (same 1 (omega arith)) ∙ t.1) (sym (same 2 (omega arith)) ∙ t.2)

pub sign_back : (u w : List ℕ) (p : ℕ) → 1 ≤ p → ((k : ℕ) → k < p → byte_at w k ≡ byte_at u k) → IsNoSign (byte_at w p)
    → is_comment_sign (byte_at w 0) (byte_at w 1) (byte_at w 2) ≡ true → is_comment_sign (byte_at u 0) (byte_at u 1) (byte_at u 2) ≡ true
sign_back u w p some same stop e = elim (or_cases (byte_at w 0 == 42 && byte_at w 1 == 42 && byte_at w 2 == 42) _ e) [
  | inl s ↦ or_left _ _ (sign_within u w p 42 some same stop.0 s)
  | inr s ↦ or_right _ _ (sign_within u w p 45 some same stop.1 s)
]

-- ---- words by their bytes

-- no byte of w but the first begins another token, and the last is no backquote
pub record IsWhole (w : List ℕ) : Type 0 where
  pub some : 0 < length w
  pub begins : lexeme_at w 0 ≡ word
  pub inner : (m : ℕ) → 1 ≤ m → m < length w → parts_word (byte_at w (m - 1)) (byte_at w m) ≡ false
  pub last : byte_at w (length w - 1) ≢ 96

or_false : (a b : Bool) → (a || b) ≡ false → b ≡ false
or_false true b e = absurd (cc)
or_false false b e = e

pub whole_of : (w : List ℕ) → IsPlain w → IsWhole w
whole_of w p = record {
  some = p.word.there;
  begins = p.word.begins;
  inner = λ m low high. or_false (m == length w) _ (p.word.first m low high);
  last = p.last;
}

pub plain_of : (w : List ℕ) → IsWhole w → IsPlain w
plain_of w p = record {
  word = record {
    there = p.some;
    begins = p.begins;
    least = p.some;
    within = omega arith;
    ends = or_left _ _ (eq-eqb (length w) (length w) refl);
    first = λ m low high. ap₂ (λ a b. a || b) (ne_eqb m (length w) (λ e. absurd (omega (arith, e, high)))) (p.inner m (omega (arith, low)) high);
  };
  last = p.last;
}

-- ---- a full stop before a word

pub dotted : (w : List ℕ) → IsPlain w → IsPlain (codes "." ++ w)
dotted w p = plain_of (46 ∷ w) (by (whole_of w p))
  where
    first_of : (v : List ℕ) → lexeme_at v 0 ≡ word → parts_word 46 (byte_at v 0) ≡ false
    first_of v e =
        let f = first_tests _ _ (byte_at v 3 == 40) (byte_at v 0 == 34) (is_special_byte (byte_at v 0)) e in
        ap₂ (λ a b. a || (b && true)) f.gap f.mark

    inner_of : (v : List ℕ) → IsWhole v → (m : ℕ) → 1 ≤ m → m < length (46 ∷ v) → parts_word (byte_at (46 ∷ v) (m - 1)) (byte_at (46 ∷ v) m) ≡ false
    inner_of v q zero low high = absurd (omega arith)
    inner_of v q (suc zero) low high = first_of v q.begins
    inner_of v q (suc (suc m)) low high =
        let e : suc (suc m) - 1 ≡ suc (suc m - 1) = omega arith in
        ap (λ n. parts_word (byte_at (46 ∷ v) n) (byte_at v (suc m))) e ∙ q.inner (suc m) (omega arith) (omega arith)

    last_of : (v : List ℕ) → IsWhole v → byte_at (46 ∷ v) (length (46 ∷ v) - 1) ≢ 96
    last_of v q e =
        let size : length (46 ∷ v) - 1 ≡ suc (length v - 1) = omega (arith, q.some) in
        q.last (sym (ap (byte_at (46 ∷ v)) size) ∙ e)

    by : IsWhole w → IsWhole (46 ∷ w)
    by q = record { some = omega arith; begins = refl; inner = inner_of w q; last = last_of w q }

pub dot_alone : IsPlain (codes ".")
dot_alone = plain_of (46 ∷ []) (record { some = omega arith; begins = refl; inner = λ m low high. absurd (omega arith); last = λ e. absurd (omega (arith, e)) })

-- ---- a name, a colon and a word

module _ (name sort : List ℕ) (some : name ≢ []) (p : IsWhole (name ++ codes ":")) (q : IsWhole sort) where
  abbrev with_colon : List ℕ
  with_colon = name ++ codes ":"

  abbrev with_both : List ℕ
  with_both = name ++ 58 ∷ sort

  named_some : 1 ≤ length name
  named_some = by name some
    where
      by : (v : List ℕ) → v ≢ [] → 1 ≤ length v
      by [] h = absurd (h refl)
      by (b ∷ v) h = omega arith

  colon_size : length with_colon ≡ length name + 1
  colon_size = length-append name (codes ":")

  both_size : length with_both ≡ length name + 1 + length sort
  both_size = omega (arith, length-append name (58 ∷ sort))

  left : (k : ℕ) → k < length name → byte_at with_both k ≡ byte_at with_colon k
  left k low = get_or_append_left name (58 ∷ sort) 0 k low ∙ sym (get_or_append_left name (codes ":") 0 k low)

  colon_there : (rest : List ℕ) → byte_at (name ++ 58 ∷ rest) (length name) ≡ 58
  colon_there rest = let e : length name + 0 ≡ length name = omega arith in ap (byte_at (name ++ 58 ∷ rest)) (sym e) ∙ get_or-append-add name (58 ∷ rest) 0 0

  upto_colon : (k : ℕ) → k ≤ length name → byte_at with_both k ≡ byte_at with_colon k
  upto_colon k low = elim (cases_lt k (length name)) [
    | inl l ↦ left k l
    | inr l ↦ let e : k ≡ length name = omega (arith, l, low) in ap (byte_at with_both) e ∙ colon_there sort ∙ sym (ap (byte_at with_colon) e ∙ colon_there [])
  ]

  right : (j : ℕ) → byte_at with_both (length name + 1 + j) ≡ byte_at sort j
  right j = let e : length name + 1 + j ≡ length name + suc j = omega arith in ap (byte_at with_both) e ∙ get_or-append-add name (58 ∷ sort) (suc j) 0

  both_begins : lexeme_at with_both 0 ≡ word
  both_begins =
      let first = upto_colon 0 (omega arith) in
      let stop : IsNoSign (byte_at with_both (length name)) = ((λ e. absurd (omega (arith, e, colon_there sort))), (λ e. absurd (omega (arith, e, colon_there sort)))) in
      ap (λ c. lexeme_of c (byte_at with_both 1) (byte_at with_both 2) (byte_at with_both 3)) first
      ∙ begins_again (byte_at with_colon 0) (byte_at with_colon 1) (byte_at with_colon 2) (byte_at with_colon 3) (byte_at with_both 1) (byte_at with_both 2) (byte_at with_both 3) p.begins
      (λ e. sign_back with_colon with_both (length name) named_some left stop (ap (λ c. is_comment_sign c (byte_at with_both 1) (byte_at with_both 2)) first ∙ e))

  sort_first : parts_word 58 (byte_at sort 0) ≡ false
  sort_first =
      let f = first_tests _ _ (byte_at sort 3 == 40) (byte_at sort 0 == 34) (is_special_byte (byte_at sort 0)) q.begins in
      ap₂ (λ a b. a || (b && true)) f.gap f.mark

  both_inner : (m : ℕ) → 1 ≤ m → m < length with_both → parts_word (byte_at with_both (m - 1)) (byte_at with_both m) ≡ false
  both_inner m low high = by (cases_lt m (length name + 1))
    where
      behind : (j : ℕ) → length name + 1 + j ≡ m → parts_word (byte_at with_both (m - 1)) (byte_at with_both m) ≡ false
      behind zero e =
          let at : m - 1 ≡ length name = omega arith in
          ap₂ parts_word (ap (byte_at with_both) at ∙ colon_there sort) (ap (byte_at with_both) (sym e) ∙ right 0) ∙ sort_first
      behind (suc j) e =
          let at : m - 1 ≡ length name + 1 + j = omega arith in
          ap₂ parts_word (ap (byte_at with_both) at ∙ right j) (ap (byte_at with_both) (sym e) ∙ right (suc j))
          ∙ (let f : j ≡ suc j - 1 = omega arith in ap (λ n. parts_word (byte_at sort n) (byte_at sort (suc j))) f)
          ∙ q.inner (suc j) (omega arith) (omega (arith, both_size, high))

      by : (m < length name + 1) ⊎ (length name + 1 ≤ m) → parts_word (byte_at with_both (m - 1)) (byte_at with_both m) ≡ false
      by (inl l) = ap₂ parts_word (upto_colon (m - 1) (omega arith)) (upto_colon m (omega arith)) ∙ p.inner m low (omega (arith, colon_size))
      by (inr l) = behind (m - (length name + 1)) (omega arith)

  pub both_whole : IsWhole (name ++ 58 ∷ sort)
  both_whole = record {
    some = omega (arith, both_size);
    begins = both_begins;
    inner = both_inner;
    last = λ e. q.last (sym (right (length sort - 1)) ∙ (let at : length name + 1 + (length sort - 1) ≡ length with_both - 1 = omega (arith, both_size, q.some) in ap (byte_at with_both) at) ∙ e);
  }

pub coloned : (name sort : List ℕ) → name ≢ [] → IsPlain (name ++ codes ":") → IsPlain sort → IsPlain (name ++ (codes ":" ++ sort))
coloned name sort some p q = plain_of (name ++ 58 ∷ sort) (both_whole name sort some (whole_of (name ++ codes ":") p) (whole_of sort q))

-- ---- decimals

-- a byte that parts no words, and begins one
pub record IsSimple (b : ℕ) : Type 0 where
  gap : is_separator b ≡ false
  mark : is_special_byte b ≡ false
  quote : (b == 34) ≡ false
  sign : IsNoSign b
  last : b ≢ 96

-- a word of such bytes
pub simple_plain : (w : List ℕ) → 0 < length w → ((k : ℕ) → k < length w → IsSimple (byte_at w k)) → IsPlain w
simple_plain w some all =
    let a = all 0 some in
    let none : is_comment_sign (byte_at w 0) (byte_at w 1) (byte_at w 2) ≡ false = false_from_ne_true _ (λ e. elim (or_cases (byte_at w 0 == 42 && byte_at w 1 == 42 && byte_at w 2 == 42) _ e) [
      | inl s ↦ a.sign.0 ((three 42 _ _ _ s).0)
      | inr s ↦ a.sign.1 ((three 45 _ _ _ s).0)
    ]) in
    plain_of w (record {
      some = some;
      begins = word_by (is_separator (byte_at w 0)) _ (byte_at w 3 == 40) (byte_at w 0 == 34) (is_special_byte (byte_at w 0)) (record { gap = a.gap; sign = none; quote = a.quote; mark = a.mark });
      inner = λ m low high. let b = all m high in ap₂ (λ x y. x || (y && not (byte_at w (m - 1) == 96))) b.gap b.mark;
      last = (all (length w - 1) (omega arith)).last;
    })

-- the bytes of a list are no digits
abbrev list_all_out : List ℕ → Bool
list_all_out [] = true
list_all_out (c ∷ cs) = (nat_lt c 48 || nat_lt 57 c) && list_all_out cs

none_low : (b : ℕ) (cs : List ℕ) → 48 ≤ b → b ≤ 57 → list_all_out cs ≡ true → list_any (λ c. b == c) cs ≡ false
none_low b [] low high e = refl
none_low b (c ∷ cs) low high e =
    let both = and_parts (nat_lt c 48 || nat_lt 57 c) (list_all_out cs) e in
    ap₂ (λ x y. x || y) (ne_eqb b c (λ q. absurd (elim (or_cases (nat_lt c 48) (nat_lt 57 c) both.0) [ inl l ↦ omega (arith, q, ltb-true c 48 l) | inr l ↦ omega (arith, q, ltb-true 57 c l) ]))) (none_low b cs low high both.1)

pub digit_simple : (b : ℕ) → 48 ≤ b → b ≤ 57 → IsSimple b
digit_simple b low high = record {
  gap = none_low b (32 ∷ 9 ∷ 13 ∷ 10 ∷ 12 ∷ []) low high refl;
  mark = none_low b (codes "()[]{},") low high refl;
  quote = ne_eqb b 34 (λ e. absurd (omega arith));
  sign = ((λ e. absurd (omega arith)), (λ e. absurd (omega arith)));
  last = λ e. absurd (omega arith);
}
