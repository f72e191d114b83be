-- Variables that stay apart: a name with the least number of apostrophes with which it is none of those before it.
use Rattle.std.proofs.Common.{◌≡◌, ◌≢◌, ◌<◌, ◌≤◌, ◌⊎◌, ℕ, ◌+◌, zero, suc, List, [], ◌∷◌, ◌++◌, Bool, true, false, not, ◌||◌, cond, replicate, length, fold, refl, sym, ◌∙◌, ap, subst, arith, inl, inr, append_assoc, length-append, zero-add, map, if◌then◌else◌}
use Rattle.std.specs.Cmp.{IsEquivalence}
use Rattle.std.specs.List.{list_any, position_or_len, range_with_len, IsDistinct, AllByRecursion}
use Rattle.std.proofs.lemmas.List.{append-nil, map-append}
use Rattle.std.proofs.lemmas.Map.Made.{length-le_from_is_member}
use Rattle.mau_terms.specs.Vars.{same_pair, with_pair, AreDistinct}
use Rattle.mau_terms.proofs.Pairs.{same_pair-is, same_pair_itself, AreDistinct-with_pair}
use Rattle.mau_signature.proofs.Entered.{replicate-end}
use Rattle.mau_renumber.specs.Carried.{primed, is_taken, apostrophes, with_variable, carry, variables_to}

abbrev Pairs : Type 0
Pairs = List (List ℕ × ℕ)

-- ---- apostrophes

pub none_primed : (name : List ℕ) → name ≡ primed name 0
none_primed [] = refl
none_primed (x ∷ xs) = ap (λ ys. x ∷ ys) (none_primed xs)

pub one_more_primed : (name : List ℕ) (n : ℕ) → primed name n ++ 39 ∷ [] ≡ primed name (n + 1)
one_more_primed name n = append_assoc name (replicate n 39) (39 ∷ []) ∙ ap (λ ys. name ++ ys) (replicate-end n 39)

length_replicate : (n : ℕ) → length {A = ℕ} (replicate n 39) ≡ n
length_replicate zero = refl
length_replicate (suc n) = ap suc (length_replicate n)

length_primed : (name : List ℕ) (n : ℕ) → length (primed name n) ≡ length name + n
length_primed name n = length-append name (replicate n 39) ∙ ap (λ k. length name + k) (length_replicate n)

-- ---- the test of two pairs

same_back : (x y : List ℕ × ℕ) → same_pair x y ≡ same_pair y x
same_back x y = by (same_pair x y) (same_pair y x) refl refl
  where
    by : (a b : Bool) → same_pair x y ≡ a → same_pair y x ≡ b → a ≡ b
    by true true e f = refl
    by false false e f = refl
    by true false e f = let same : same_pair y x ≡ true = subst (λ w. same_pair w x ≡ true) (same_pair-is x y e) (same_pair_itself x) in cc
    by false true e f = let same : same_pair x y ≡ true = subst (λ w. same_pair w y ≡ true) (same_pair-is y x f) (same_pair_itself y) in cc

pairs_equivalence : IsEquivalence same_pair
pairs_equivalence = record {
  refl = same_pair_itself;
  symm = same_back;
  congr = λ x y z e. ap (λ w. same_pair w z) (same_pair-is x y e);
}

-- ---- of more names than pairs one is free

candidates : List ℕ → ℕ → ℕ → Pairs
candidates name s zero = []
candidates name s (suc n) = (primed name n, s) ∷ candidates name s n

many_candidates : (name : List ℕ) (s n : ℕ) → length (candidates name s n) ≡ n
unfolding candidates
many_candidates name s zero = refl
many_candidates name s (suc n) = ap suc (many_candidates name s n)

differs : (name : List ℕ) (s m n : ℕ) → n < m → same_pair (primed name m, s) (primed name n, s) ≡ false
differs name s m n lt = by (same_pair (primed name m, s) (primed name n, s)) refl
  where
    by : (b : Bool) → same_pair (primed name m, s) (primed name n, s) ≡ b → b ≡ false
    by false e = refl
    by true e =
        let same = ap (λ (p : List ℕ × ℕ). length p.0) (same_pair-is (primed name m, s) (primed name n, s) e) in
        absurd (omega (arith, same, length_primed name m, length_primed name n))

distinct_before : (name : List ℕ) (s m n : ℕ) → n ≤ m → AllByRecursion (λ y. same_pair (primed name m, s) y ≡ false) (candidates name s n)
unfolding candidates
distinct_before name s m zero le = tt
distinct_before name s m (suc n) le = (differs name s m n (omega arith), distinct_before name s m n (omega arith))

distinct_candidates : (name : List ℕ) (s n : ℕ) → IsDistinct same_pair (candidates name s n)
unfolding IsDistinct candidates
distinct_candidates name s zero = tt
distinct_candidates name s (suc n) = (distinct_before name s n n (omega arith), distinct_candidates name s n)

all_taken : (pairs : Pairs) (name : List ℕ) (s n : ℕ) → ((j : ℕ) → j < n → is_taken pairs (primed name j, s) ≡ true)
    → (q : List ℕ × ℕ) → list_any (same_pair q) (candidates name s n) ≡ true → list_any (same_pair q) pairs ≡ true
unfolding candidates
all_taken pairs name s zero taken q e = absurd cc
all_taken pairs name s (suc n) taken q e = by (same_pair q (primed name n, s)) refl (all_taken pairs name s n (λ j lt. taken j (omega arith)) q)
  where
    by : (b : Bool) → same_pair q (primed name n, s) ≡ b → (list_any (same_pair q) (candidates name s n) ≡ true → list_any (same_pair q) pairs ≡ true)
        → list_any (same_pair q) pairs ≡ true
    by true here ih = subst (λ w. list_any (same_pair w) pairs ≡ true) (sym (same_pair-is q (primed name n, s) here)) (taken n (omega arith))
    by false here ih = ih (sym (ap (λ b. b || list_any (same_pair q) (candidates name s n)) here) ∙ e)

pub some_free : (pairs : Pairs) (name : List ℕ) (s : ℕ) → ((j : ℕ) → j < length pairs + 1 → is_taken pairs (primed name j, s) ≡ true) → ⊥
some_free pairs name s taken =
    let n = length pairs + 1 in
    let few = length-le_from_is_member pairs_equivalence (candidates name s n) pairs (distinct_candidates name s n) (all_taken pairs name s n taken) in
    omega (arith, few, many_candidates name s n)

-- ---- the first one

first_at : (f : ℕ → Bool) (a n i : ℕ) → ((j : ℕ) → j < i → f (a + j) ≡ false) → f (a + i) ≡ true → i < n → position_or_len f (range_with_len a n) ≡ i
first_at f a zero i before here lt = absurd (omega arith)
first_at f a (suc n) zero before here lt =
    let at : f a ≡ true = subst (λ k. f k ≡ true) (omega arith) here in
    ap (λ b. cond (not b) (1 + position_or_len f (range_with_len (a + 1) n)) 0) at
first_at f a (suc n) (suc i) before here lt =
    let at : f a ≡ false = subst (λ k. f k ≡ false) (omega arith) (before 0 (omega arith)) in
    let rest = first_at f (a + 1) n i (λ j w. subst (λ k. f k ≡ false) (omega arith) (before (suc j) (omega arith))) (subst (λ k. f k ≡ true) (omega arith) here) (omega arith) in
    ap (λ b. cond (not b) (1 + position_or_len f (range_with_len (a + 1) n)) 0) at ∙ ap (λ k. 1 + k) rest ∙ omega arith

-- a number of apostrophes with which it is free, and all lower ones are taken
pub first_free : (pairs : Pairs) (name : List ℕ) (s i : ℕ) → ((j : ℕ) → j < i → is_taken pairs (primed name j, s) ≡ true)
    → is_taken pairs (primed name i, s) ≡ false → i < length pairs + 1 → apostrophes pairs (name, s) ≡ i
first_free pairs name s i before here lt =
    first_at (λ n. not (is_taken pairs (primed name n, s))) 0 (length pairs + 1) i
    (λ j w. ap not (subst (λ k. is_taken pairs (primed name k, s) ≡ true) (omega arith) (before j w)))
    (ap not (subst (λ k. is_taken pairs (primed name k, s) ≡ false) (omega arith) here)) lt

le_or : (j n : ℕ) → j ≤ n → (j < n) ⊎ (j ≡ n)
le_or zero zero le = inr refl
le_or zero (suc n) le = inl (omega arith)
le_or (suc j) zero le = absurd (omega arith)
le_or (suc j) (suc n) le = elim (le_or j n (omega arith)) [ inl w ↦ inl (omega arith) | inr w ↦ inr (ap suc w) ]

-- the first number below n for which f is true, or none
abbrev First : (ℕ → Bool) → ℕ → Type 0
First f n = ((i : ℕ) × (i < n) × (f i ≡ true) × ((j : ℕ) → j < i → f j ≡ false)) ⊎ ((j : ℕ) → j < n → f j ≡ false)

first : (f : ℕ → Bool) (n : ℕ) → First f n
first f zero = inr (λ j lt. absurd (omega arith))
first f (suc n) = elim (first f n) [ inl w ↦ inl (w.0, omega (arith, w.1), w.2, w.3) | inr none ↦ by (f n) refl none ]
  where
    by : (b : Bool) → f n ≡ b → ((j : ℕ) → j < n → f j ≡ false) → First f (suc n)
    by true e none = inl (n, omega arith, e, none)
    by false e none = inr (λ j lt. at j lt (lt_or_eq j lt))
      where
        lt_or_eq : (j : ℕ) → j < suc n → (j < n) ⊎ (j ≡ n)
        lt_or_eq j lt = le_or j n (omega arith)

        at : (j : ℕ) → j < suc n → (j < n) ⊎ (j ≡ n) → f j ≡ false
        at j lt (inl w) = none j w
        at j lt (inr w) = subst (λ k. f k ≡ false) (sym w) e

not_is : (a b : Bool) → not a ≡ b → a ≡ not b
not_is true b e = ap not e
not_is false b e = ap not e

pub free : (pairs : Pairs) (p : List ℕ × ℕ) → is_taken pairs (primed p.0 (apostrophes pairs p), p.1) ≡ false
free pairs p = elim (first (λ n. not (is_taken pairs (primed p.0 n, p.1))) (length pairs + 1)) [
  | inl w ↦
      let i = w.0 in
      let at = first_at (λ n. not (is_taken pairs (primed p.0 n, p.1))) 0 (length pairs + 1) i
      (λ j lt. subst (λ k. not (is_taken pairs (primed p.0 k, p.1)) ≡ false) (sym (zero-add j)) (w.3 j lt))
      (subst (λ k. not (is_taken pairs (primed p.0 k, p.1)) ≡ true) (sym (zero-add i)) w.2) w.1 in
      subst (λ k. is_taken pairs (primed p.0 k, p.1) ≡ false) (sym at) (not_is (is_taken pairs (primed p.0 i, p.1)) true w.2)
  | inr none ↦ absurd (some_free pairs p.0 p.1 (λ j lt. not_is (is_taken pairs (primed p.0 j, p.1)) false (none j lt)))
]

-- ---- one more pair

-- a pair that makes them more was not there
pub grown : (pairs : Pairs) (x : List ℕ × ℕ) → length pairs < length (with_pair pairs x) → (is_taken pairs x ≡ false) × (with_pair pairs x ≡ pairs ++ x ∷ [])
grown pairs x lt = by (list_any (same_pair x) pairs) refl lt
  where
    by : (b : Bool) → list_any (same_pair x) pairs ≡ b → length pairs < length (if b then pairs else pairs ++ x ∷ [])
        → (list_any (same_pair x) pairs ≡ false) × ((if list_any (same_pair x) pairs then pairs else pairs ++ x ∷ []) ≡ pairs ++ x ∷ [])
    by true e w = absurd (omega arith)
    by false e w = (e, ap (λ b. if b then pairs else pairs ++ x ∷ []) e)

-- one that doesn't was
pub same_pairs : (pairs : Pairs) (x : List ℕ × ℕ) → length (with_pair pairs x) ≤ length pairs → (is_taken pairs x ≡ true) × (with_pair pairs x ≡ pairs)
same_pairs pairs x le = by (list_any (same_pair x) pairs) refl le
  where
    by : (b : Bool) → list_any (same_pair x) pairs ≡ b → length (if b then pairs else pairs ++ x ∷ []) ≤ length pairs
        → (list_any (same_pair x) pairs ≡ true) × ((if list_any (same_pair x) pairs then pairs else pairs ++ x ∷ []) ≡ pairs)
    by true e w = (e, ap (λ b. if b then pairs else pairs ++ x ∷ []) e)
    by false e w = absurd (omega (arith, length-append pairs (x ∷ [])))

-- ---- the variables of a statement

with_is_pair : (pairs : Pairs) (p : List ℕ × ℕ) → with_variable pairs p ≡ with_pair pairs (primed p.0 (apostrophes pairs p), p.1)
with_is_pair pairs p =
    let x : List ℕ × ℕ = (primed p.0 (apostrophes pairs p), p.1) in
    sym (ap (λ b. if b then pairs else pairs ++ x ∷ []) (free pairs p))

distinct_from : (sort : ℕ → ℕ) (done pairs : Pairs) → AreDistinct done → AreDistinct (fold (carry sort) done pairs)
distinct_from sort done [] d = d
distinct_from sort done (p ∷ pairs) d =
    distinct_from sort (carry sort done p) pairs
    (subst AreDistinct (sym (with_is_pair done (p.0, sort p.1))) (AreDistinct-with_pair done (primed p.0 (apostrophes done (p.0, sort p.1)), sort p.1) d))

sorts_from : (sort : ℕ → ℕ) (done pairs : Pairs) → map (λ p. p.1) (fold (carry sort) done pairs) ≡ map (λ p. p.1) done ++ map (λ p. sort p.1) pairs
sorts_from sort done [] = sym (append-nil (map (λ p. p.1) done))
sorts_from sort done (p ∷ pairs) =
    sorts_from sort (carry sort done p) pairs
    ∙ ap (λ xs. xs ++ map (λ p. sort p.1) pairs) (map-append (λ (p : List ℕ × ℕ). p.1) done ((primed p.0 (apostrophes done (p.0, sort p.1)), sort p.1) ∷ []))
    ∙ append_assoc (map (λ p. p.1) done) (sort p.1 ∷ []) (map (λ p. sort p.1) pairs)

-- they are as many, each in its place, and no two of them are one
pub variables_apart : (sort : ℕ → ℕ) (pairs : Pairs) → AreDistinct (variables_to sort pairs) × (map (λ p. p.1) (variables_to sort pairs) ≡ map (λ p. sort p.1) pairs)
variables_apart sort pairs = (distinct_from sort [] pairs tt, sorts_from sort [] pairs)

-- ---- the code's loop

-- the first text that makes them more is that with the least number of apostrophes
pub added_apart : (pairs now new : Pairs) (name text : List ℕ) (s i before after : ℕ) → pairs ≡ now → text ≡ primed name i
    → ((j : ℕ) → j < i → is_taken pairs (primed name j, s) ≡ true) → before ≡ length pairs → new ≡ with_pair pairs (text, s) → after ≡ length new
    → before < after → i < before + 1 → new ≡ with_variable now (name, s)
added_apart pairs now new name text s i before after same is taken count e len more lt =
    let x : List ℕ × ℕ = (primed name i, s) in
    let new_is : new ≡ with_pair pairs x = e ∙ ap (λ (t : List ℕ). with_pair pairs (t, s)) is in
    let longer : length pairs < length (with_pair pairs x) = omega (arith, ap length new_is) in
    let g = grown pairs x longer in
    let at = first_free pairs name s i taken g.0 (omega arith) in
    new_is ∙ g.1 ∙ ap (λ k. pairs ++ (primed name k, s) ∷ []) (sym at) ∙ ap (λ ps. with_variable ps (name, s)) same

pub never_all_taken : (pairs : Pairs) (name : List ℕ) (s i before : ℕ) → ((j : ℕ) → j < i → is_taken pairs (primed name j, s) ≡ true) → before ≡ length pairs
    → before + 1 ≤ i → ⊥
never_all_taken pairs name s i before taken count le = some_free pairs name s (λ j lt. taken j (omega arith))
