-- Each text has one answer, which the function computes.
use Rattle.std.proofs.Common.{◌≡◌, ℕ, zero, suc, ◌<◌, ◌≤◌, List, [], length, take, Bool, true, false, cond, Result, Err, IsUtf8, refl, sym, ◌∙◌, ap, subst, arith, ⊎_elim, take_all}
use Rattle.std.proofs.lemmas.Bool.{cases_lt, both_ways, false_from_ne_true}
use Rattle.std.proofs.lemmas.Str.{IsUtf8-from_is_utf8, is_utf8-from_IsUtf8, utf8_valid_len-IsValidUpTo}
use Rattle.std.specs.Str.{IsValidUpTo, is_utf8}
use Rattle.std.specs.Str.Lossy.{valid_len_up_to, utf8_valid_len}
use Rattle.mau_tokens.specs.declared.token.Token.{Token}
use Rattle.mau_tokens.specs.declared.token.TokenFault.{TokenFault}
use Rattle.mau_tokens.specs.declared.token.TokenFault.TheVariants.{NotUtf8}
use Rattle.mau_tokens.specs.TokensOf.{TokensOf, not_utf8, utf8}
use Rattle.mau_tokens.specs.Computed.{tokens_of, tokens_from}
use Rattle.mau_tokens.specs.Laws.{EveryTextHasAnAnswer, AnswersAreOne, AnswersAreComputed}
use Rattle.mau_tokens.proofs.Companion.{computed, computes}

-- the longest front in UTF-8 of at most m bytes
record IsFront (bs : List ℕ) (m n : ℕ) : Type 0 where
  valid : IsUtf8 (take n bs)
  longest : (k : ℕ) → n < k → k ≤ m → IsUtf8 (take k bs) → ⊥

front_step : (bs : List ℕ) (m n : ℕ) (b : Bool) → is_utf8 (take (suc m) bs) ≡ b → IsFront bs m n → IsFront bs (suc m) (cond b (suc m) n)
front_step bs m n true e front = record { valid = IsUtf8-from_is_utf8 _ e; longest = λ k above within u. absurd (omega arith) }
front_step bs m n false e front = record {
  valid = front.valid;
  longest = λ k above within u.
      ⊎_elim
      (λ (top : m < k). let same : k ≡ suc m = omega arith in both_ways _ e (is_utf8-from_IsUtf8 _ (subst (λ j. IsUtf8 (take j bs)) same u)))
      (λ (low : k ≤ m). front.longest k above low u)
      (cases_lt m k);
}

front_is : (bs : List ℕ) (m : ℕ) → IsFront bs m (valid_len_up_to bs m)
front_is bs zero = record { valid = ([], (refl, refl)); longest = λ k above within u. absurd (omega arith) }
front_is bs (suc m) = front_step bs m (valid_len_up_to bs m) (is_utf8 (take (suc m) bs)) refl (front_is bs m)

-- bytes that are not UTF-8 have a longest front that is, of this length
valid_front : (bs : List ℕ) → is_utf8 bs ≡ false → IsValidUpTo bs (utf8_valid_len bs)
unfolding utf8_valid_len
valid_front bs e =
    let n = utf8_valid_len bs in
    let front = front_is bs (length bs) in
    let whole : (k : ℕ) → length bs ≤ k → IsUtf8 (take k bs) → ⊥ = λ k past u. both_ways _ e (is_utf8-from_IsUtf8 bs (subst IsUtf8 (take_all k bs past) u)) in
    record {
      short = ⊎_elim (λ (less : n < length bs). less) (λ (all : length bs ≤ n). absurd (whole n all front.valid)) (cases_lt n (length bs));
      front = front.valid;
      longest = λ m above u. ⊎_elim (λ (past : length bs < m). whole m (omega arith) u) (λ (within : m ≤ length bs). front.longest m above within u) (cases_lt (length bs) m);
    }

not_whole : (bs : List ℕ) (n : ℕ) → IsValidUpTo bs n → is_utf8 bs ≡ false
not_whole bs n valid =
    false_from_ne_true _ (λ e. valid.longest (length bs) valid.short (subst IsUtf8 (sym (take_all (length bs) bs (omega arith))) (IsUtf8-from_is_utf8 bs e)))

-- the function by its test
abbrev with_test : List ℕ → Bool → Result (List Token) TokenFault
with_test bs b = cond b (tokens_from 1024 bs (length bs) 0) (Err (NotUtf8 (utf8_valid_len bs)))

pub answers_are_computed : AnswersAreComputed
answers_are_computed bs = by (is_utf8 bs) refl
  where
    by : (b : Bool) → is_utf8 bs ≡ b → TokensOf bs (with_test bs b)
    by true e = utf8 _ (IsUtf8-from_is_utf8 bs e) (computes 1024 bs (length bs) 0 (omega arith) (omega arith))
    by false e = not_utf8 _ (valid_front bs e)

computed_of : (bs : List ℕ) (r : Result (List Token) TokenFault) → TokensOf bs r → r ≡ tokens_of bs
computed_of bs r (not_utf8 at valid) = ap (λ n. Err (NotUtf8 n)) (sym (utf8_valid_len-IsValidUpTo bs at valid)) ∙ sym (ap (with_test bs) (not_whole bs at valid))
computed_of bs r (utf8 _ u from) = computed 1024 bs (length bs) 0 r from (omega arith) ∙ sym (ap (with_test bs) (is_utf8-from_IsUtf8 bs u))

pub answers_are_one : AnswersAreOne
answers_are_one bs r q a b = computed_of bs r a ∙ sym (computed_of bs q b)

pub every_text_has_an_answer : EveryTextHasAnAnswer
every_text_has_an_answer bs = (tokens_of bs, answers_are_computed bs)
