-- Which places of arguments a strategy names.
use Rattle.std.proofs.Common.{◌≡◌, ◌≢◌, ℕ, zero, suc, ◌+◌, ◌-◌, ◌<◌, ◌≤◌, List, [], ◌∷◌, ◌++◌, Bool, true, false, ◌&&◌, ◌||◌, length, drop, get_or, nat_eq, refl, sym, ap, ap₂, ◌∙◌, arith, eqb-true}
use Rattle.std.proofs.lemmas.Bool.{eqb-false}
use Rattle.std.proofs.Math.Seq.{drop-cons}
use Rattle.std.specs.List.{range_with_len, list_any}
use Rattle.mau_terms.specs.Tree.{Tree}
use Rattle.mau_evaluation.specs.Evaluation.{has_number, count_up, names_all, order_by}
use Rattle.mau_api.specs.Programs.{places_of}

-- ---- numbers one after another

pub count_up-range : (n : ℕ) (ts : List Tree) → count_up n ts ≡ range_with_len n (length ts)
count_up-range n [] = refl
count_up-range n (t ∷ ts) = ap (λ xs. n ∷ xs) (count_up-range (suc n) ts ∙ ap (λ m. range_with_len m (length ts)) (one n))
  where
    one : (n : ℕ) → suc n ≡ n + 1
    one n = omega arith

pub range-more : (a n m : ℕ) → m ≡ a + n → range_with_len a n ++ m ∷ [] ≡ range_with_len a (n + 1)
range-more a zero m e = ap (λ k. k ∷ []) (e ∙ plain a) ∙ sym (ap (range_with_len a) one)
  where
    plain : (a : ℕ) → a + 0 ≡ a
    plain a = omega arith

    one : zero + 1 ≡ suc zero
    one = omega arith
range-more a (suc n) m e = ap (λ xs. a ∷ xs) (range-more (a + 1) n m (omega (arith, e))) ∙ sym (ap (range_with_len a) (more n))
  where
    more : (n : ℕ) → suc n + 1 ≡ suc (n + 1)
    more n = omega arith

-- ---- numbers in a list

pub has_number-any : (xs : List ℕ) (n : ℕ) → list_any (λ y. nat_eq y n) xs ≡ has_number xs n
has_number-any [] n = refl
has_number-any (x ∷ xs) n = ap (λ b. nat_eq x n || b) (has_number-any xs n)

pub names_below : (order : List ℕ) (n : ℕ) (ts : List Tree) → ((k : ℕ) → n ≤ k → k < n + length ts → has_number order k ≡ true) → names_all (count_up n ts) order ≡ true
names_below order n [] h = refl
names_below order n (t ∷ ts) h = ap₂ (λ a b. a && b) (h n (omega arith) (omega arith)) (names_below order (suc n) ts (λ k l m. h k (omega (arith, l)) (omega (arith, m))))

and_false : (a : Bool) → (a && false) ≡ false
and_false true = refl
and_false false = refl

pub names_missing : (order : List ℕ) (n : ℕ) (ts : List Tree) (p : ℕ) → n ≤ p → p < n + length ts → has_number order p ≡ false → names_all (count_up n ts) order ≡ false
names_missing order n [] p l m e = absurd (omega (arith, l, m))
names_missing order n (t ∷ ts) p l m e = by (λ d. names_missing order (suc n) ts p (omega (arith, l, d)) (omega (arith, m)) e) (nat_eq n p) refl
  where
    by : (n ≢ p → names_all (count_up (suc n) ts) order ≡ false) → (b : Bool) → nat_eq n p ≡ b → (has_number order n && names_all (count_up (suc n) ts) order) ≡ false
    by rest true k = ap (λ b. b && names_all (count_up (suc n) ts) order) (ap (has_number order) (eqb-true n p k) ∙ e)
    by rest false k = ap (λ b. has_number order n && b) (rest (eqb-false n p k)) ∙ and_false (has_number order n)

-- ---- a strategy, one number after another

pub places_zero : (s : List ℕ) (i : ℕ) → i < length s → get_or s i 0 ≡ 0 → places_of (drop i s) ≡ []
places_zero s i h z = ap places_of (drop-cons s i 0 h ∙ ap (λ x. x ∷ drop (suc i) s) z)

pub places_next : (s : List ℕ) (i : ℕ) → i < length s → get_or s i 0 ≢ 0 → places_of (drop i s) ≡ (get_or s i 0 - 1) ∷ places_of (drop (i + 1) s)
places_next s i h z = ap places_of (drop-cons s i 0 h) ∙ (one (get_or s i 0) (drop (suc i) s) z ∙ ap (λ j. (get_or s i 0 - 1) ∷ places_of (drop j s)) (more i))
  where
    more : (i : ℕ) → suc i ≡ i + 1
    more i = omega arith

    one : (n : ℕ) (rest : List ℕ) → n ≢ 0 → places_of (n ∷ rest) ≡ (n - 1) ∷ places_of rest
    one zero rest z = absurd (z refl)
    one (suc n) rest z = ap (λ k. k ∷ places_of rest) (less n)
      where
        less : (n : ℕ) → n ≡ suc n - 1
        less n = omega arith

pub places_end : (s : List ℕ) (i : ℕ) → length s ≤ i → places_of (drop i s) ≡ []
places_end [] zero h = refl
places_end [] (suc i) h = refl
places_end (x ∷ s) zero h = absurd (omega (arith, h))
places_end (x ∷ s) (suc i) h = places_end s i (omega (arith, h))

-- ---- the order by the strategy

pub order_free : (a : Bool) (is js : List ℕ) (ts : List Tree) → a ≡ false → is ≡ js → is ≡ order_by a js ts
order_free a is js ts e k = k ∙ sym (ap (λ b. order_by b js ts) e)

pub order_none : (a : Bool) (is js : List ℕ) (ts : List Tree) → a ≡ true → is ≡ js → length is ≡ 0 → is ≡ order_by a js ts
order_none a is js ts e k l = by is js k l ∙ sym (ap (λ b. order_by b js ts) e)
  where
    by : (is js : List ℕ) → is ≡ js → length is ≡ 0 → is ≡ order_by true js ts
    by [] [] k l = refl
    by [] (j ∷ js) k l = cc
    by (i ∷ is) js k l = absurd (omega (arith, l))

pub order_all : (a : Bool) (is js : List ℕ) (ts : List Tree) → a ≡ true → is ≡ js → length is ≢ 0 → count_up 0 ts ≡ order_by a js ts
order_all a is js ts e k l = by is js k l ∙ sym (ap (λ b. order_by b js ts) e)
  where
    by : (is js : List ℕ) → is ≡ js → length is ≢ 0 → count_up 0 ts ≡ order_by true js ts
    by is [] k l = absurd (l (ap length k))
    by is (j ∷ js) k l = refl
