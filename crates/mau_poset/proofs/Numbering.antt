-- Kinds counted from the first sort on.
use Rattle.std.proofs.Common.{◌≡◌, ◌≢◌, ℕ, suc, ◌+◌, ◌<◌, ◌≤◌, ⊎_elim, List, length, get_or, set, refl, sym, ap, ◌∙◌, arith}
use Rattle.std.proofs.lemmas.Bool.{cases_eq, cond-true, cond-false, eq-eqb, ne_eqb}
use Rattle.std.proofs.lemmas.List.{get_or-set_same, get_or-set_other, length-set}
use Rattle.mau_poset.specs.Order.{first_sort, kinds_before}
use Rattle.mau_poset.proofs.FirstSorts.{first_sort-le, first_sort-joined, first_sort-same}

-- one sort more

pub kinds_before-first : (pairs : List (ℕ × ℕ)) (a : ℕ) → first_sort pairs a ≡ a → kinds_before pairs (suc a) ≡ kinds_before pairs a + 1
unfolding kinds_before
kinds_before-first pairs a first = cond-true _ (kinds_before pairs a + 1) (kinds_before pairs a) (eq-eqb (first_sort pairs a) a first)

pub kinds_before-later : (pairs : List (ℕ × ℕ)) (a : ℕ) → first_sort pairs a ≢ a → kinds_before pairs (suc a) ≡ kinds_before pairs a
unfolding kinds_before
kinds_before-later pairs a later = cond-false _ (kinds_before pairs a + 1) (kinds_before pairs a) (ne_eqb (first_sort pairs a) a later)

pub kinds_before-none : (pairs : List (ℕ × ℕ)) → kinds_before pairs 0 ≡ 0
unfolding kinds_before
kinds_before-none pairs = refl

-- the first sort of a kind is its own first sort
pub first_sort-first_sort : (pairs : List (ℕ × ℕ)) (a : ℕ) → first_sort pairs (first_sort pairs a) ≡ first_sort pairs a
first_sort-first_sort pairs a = sym (first_sort-same pairs (first_sort-joined pairs a))

-- The labels below a are the numbers of kinds, of which there are `count` so far, and the others are first sorts.
pub record IsNumbered (pairs : List (ℕ × ℕ)) (labels : List ℕ) (count a : ℕ) : Type 0 where
  pub few : count ≤ a
  pub counted : count ≡ kinds_before pairs a
  pub numbers : (k : ℕ) → k < a → get_or labels k 0 ≡ kinds_before pairs (first_sort pairs k)
  pub firsts : (k : ℕ) → a ≤ k → k < length labels → get_or labels k 0 ≡ first_sort pairs k

pub IsNumbered-none : (pairs : List (ℕ × ℕ)) (labels : List ℕ) → ((k : ℕ) → k < length labels → get_or labels k 0 ≡ first_sort pairs k) → IsNumbered pairs labels 0 0
IsNumbered-none pairs labels firsts = record {
  few = omega arith;
  counted = sym (kinds_before-none pairs);
  numbers = λ k lt. absurd (omega arith);
  firsts = λ k _ lt. firsts k lt;
}

-- the label of a is that of its first sort, which is not above it
pub IsNumbered-low : (pairs : List (ℕ × ℕ)) (labels : List ℕ) (count a : ℕ) → a < length labels → IsNumbered pairs labels count a → get_or labels a 0 ≤ a
IsNumbered-low pairs labels count a lt is = omega (arith, is.firsts a (omega arith) lt, first_sort-le pairs a)

-- one label replaced by the number of its kind
number_set : (pairs : List (ℕ × ℕ)) (labels : List ℕ) (count more a number : ℕ) → a < length labels → IsNumbered pairs labels count a → more ≤ a + 1 → more ≡ kinds_before pairs (a + 1) → number ≡ kinds_before pairs (first_sort pairs a) → IsNumbered pairs (set labels a number) more (a + 1)
number_set pairs labels count more a number lt is few counted here = record {
  few = few;
  counted = counted;
  numbers = λ k below. ⊎_elim
      (λ (e : k ≡ a). rw (e, get_or-set_same labels a number 0 lt) here)
      (λ (ne : k ≡ a → ⊥). rw (get_or-set_other labels a k number 0 ne) (is.numbers k (omega arith)))
      (cases_eq k a);
  firsts = λ k above within.
      rw (get_or-set_other labels a k number 0 (λ e. omega arith)) (is.firsts k (omega arith) (rw length-set at within));
}

pub IsNumbered-first : (pairs : List (ℕ × ℕ)) (labels : List ℕ) (count a : ℕ) → a < length labels → IsNumbered pairs labels count a → get_or labels a 0 ≡ a → IsNumbered pairs (set labels a count) (count + 1) (a + 1)
IsNumbered-first pairs labels count a lt is own =
    let next : a + 1 ≡ suc a = omega arith in
    let first : first_sort pairs a ≡ a = sym (is.firsts a (omega arith) lt) ∙ own in
    number_set pairs labels count (count + 1) a count lt is (omega (arith, is.few))
    (ap (λ n. n + 1) is.counted ∙ sym (rw (← next) at (kinds_before-first pairs a first)))
    (is.counted ∙ ap (kinds_before pairs) (sym first))

pub IsNumbered-later : (pairs : List (ℕ × ℕ)) (labels : List ℕ) (count a : ℕ) → a < length labels → IsNumbered pairs labels count a → get_or labels a 0 ≢ a → IsNumbered pairs (set labels a (get_or labels (get_or labels a 0) 0)) count (a + 1)
IsNumbered-later pairs labels count a lt is later =
    let next : a + 1 ≡ suc a = omega arith in
    let label : get_or labels a 0 ≡ first_sort pairs a = is.firsts a (omega arith) lt in
    let below : first_sort pairs a < a = omega (arith, first_sort-le pairs a) in
    number_set pairs labels count count a _ lt is (omega (arith, is.few))
    (is.counted ∙ sym (rw (← next) at (kinds_before-later pairs a (λ e. later (label ∙ e)))))
    (rw label (is.numbers (first_sort pairs a) below ∙ ap (kinds_before pairs) (first_sort-first_sort pairs a)))
