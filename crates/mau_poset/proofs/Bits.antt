-- Single bits of a table, and what a write to a word does to them.
use Rattle.std.proofs.Common.{◌≡◌, ◌≢◌, ℕ, ◌+◌, ◌*◌, ◌/◌, ◌%◌, ◌^◌, ◌<◌, ◌⊎◌, inl, inr, sum, List, length, get_or, set, ⊎_elim, ap₂, sym, subst, ◌∙◌, Bool, true, false, ◌||◌, arith}
use Rattle.std.specs.Int.{bit_at}
use Rattle.std.specs.Int.RustNames.{bit_or}
use Rattle.std.proofs.lemmas.Nat.{le_or_l, same_from_place}
use Rattle.std.proofs.lemmas.Nat.Bits.{bit_at_or, bit_at-lt, bit_at-pow_same, bit_at-pow_other}
use Rattle.std.proofs.lemmas.List.{get_or-set_same, get_or-set_other}
use Rattle.std.proofs.lemmas.List.Sums.{sum_by-set}
use Rattle.std.proofs.lemmas.Bool.{cases_eq}
use Rattle.mau_poset.specs.Table.{HasBit, TakesUp, Grew}

-- a bit of `x | y` is set exactly where it is set in x or in y
pub bit_or_cases : (x y m : ℕ) → bit_at (bit_or x y) m ≡ 1 → (bit_at x m ≡ 1) ⊎ (bit_at y m ≡ 1)
bit_or_cases x y m h = let e = bit_at_or x y m in grind (arith, e, bit_at-lt x m, bit_at-lt y m)

pub bit_or_right : (x y m : ℕ) → bit_at y m ≡ 1 → bit_at (bit_or x y) m ≡ 1
bit_or_right x y m h = omega (arith, bit_at_or x y m, bit_at-lt x m, bit_at-lt y m)

-- the sum of a table grows where a word gets a bit more
pub sum-raised : (xs : List ℕ) (at more : ℕ) → at < length xs → bit_or (get_or xs at 0) more ≢ get_or xs at 0 → sum xs < sum (set xs at (bit_or (get_or xs at 0) more))
sum-raised xs at more within grows = omega (arith, sum_by-set (λ x. x) xs at (bit_or (get_or xs at 0) more) 0 within, le_or_l (get_or xs at 0) more)

-- one more word is taken up
pub TakesUp-more : (w a b k : ℕ) (old new : List ℕ) → k < w → a * w + k < length new → TakesUp w old new a b k → TakesUp w old (set new (a * w + k) (bit_or (get_or new (a * w + k) 0) (get_or new (b * w + k) 0))) a b (k + 1)
TakesUp-more w a b k old new in_row in_table so_far =
    let own : get_or new (a * w + k) 0 ≡ get_or old (a * w + k) 0 = so_far.others (a * w + k) (λ i lt e. omega arith) in
    let other : get_or new (b * w + k) 0 ≡ get_or old (b * w + k) 0 = so_far.others (b * w + k) (λ i lt e. omega (arith, same_from_place b k a i w in_row (omega arith) e)) in
    record {
      taken = λ i lt. ⊎_elim
          (λ (e : i ≡ k). rw e (get_or-set_same new (a * w + k) _ 0 in_table ∙ ap₂ bit_or own other))
          (λ (ne : i ≡ k → ⊥). get_or-set_other new (a * w + k) (a * w + i) _ 0 (λ e. ne (omega arith)) ∙ so_far.taken i (omega arith))
          (cases_eq i k);
      others = λ p apart. get_or-set_other new (a * w + k) p _ 0 (apart k (omega arith)) ∙ so_far.others p (λ i lt. apart i (omega arith));
    }

-- what grows after it grew or stayed has grown
pub Grew-more : (b c : Bool) (x y z : List ℕ) → Grew b x y → Grew c y z → Grew (c || b) x z
Grew-more true true x y z h k = omega (arith, h, k)
Grew-more true false x y z h k = subst (λ w. sum x < sum w) (sym k) h
Grew-more false true x y z h k = subst (λ w. sum w < sum z) h k
Grew-more false false x y z h k = k ∙ h

-- ---- the bits of a row that takes up another

pub HasBit-taken : (w a b i j : ℕ) (old new : List ℕ) → j / 64 < w → TakesUp w old new a b w → HasBit w new i j → HasBit w old i j ⊎ ((i ≡ a) × HasBit w old b j)
unfolding HasBit
HasBit-taken w a b i j old new in_row taken h = ⊎_elim
    (λ (e : i ≡ a).
    let word : get_or new (i * w + j / 64) 0 ≡ bit_or (get_or old (a * w + j / 64) 0) (get_or old (b * w + j / 64) 0) = rw e (taken.taken (j / 64) in_row) in
    ⊎_elim
    (λ had. inl (rw e had))
    (λ has. inr (e, has))
    (bit_or_cases _ _ (j % 64) (rw word at h)))
    (λ (ne : i ≡ a → ⊥).
    let word : get_or new (i * w + j / 64) 0 ≡ get_or old (i * w + j / 64) 0 = taken.others _ (λ k lt e. ne (same_from_place i (j / 64) a k w in_row lt e).0) in
    inl (rw word at h))
    (cases_eq i a)

pub HasBit-takes : (w a b j : ℕ) (old new : List ℕ) → j / 64 < w → TakesUp w old new a b w → HasBit w old b j → HasBit w new a j
unfolding HasBit
HasBit-takes w a b j old new in_row taken h =
    rw (taken.taken (j / 64) in_row) (bit_or_right _ _ (j % 64) h)

-- ---- the bits of a row where one is set

pub HasBit-raised : (w a b i j : ℕ) (t : List ℕ) → b / 64 < w → j / 64 < w → a * w + b / 64 < length t → HasBit w (set t (a * w + b / 64) (bit_or (get_or t (a * w + b / 64) 0) (2 ^ (b % 64)))) i j → HasBit w t i j ⊎ ((i ≡ a) × (j ≡ b))
unfolding HasBit
HasBit-raised w a b i j t b_in j_in within h = ⊎_elim
    (λ (e : i * w + j / 64 ≡ a * w + b / 64).
    let at = same_from_place i (j / 64) a (b / 64) w j_in b_in e in
    let h' = rw (e, get_or-set_same t (a * w + b / 64) (bit_or (get_or t (a * w + b / 64) 0) (2 ^ (b % 64))) 0 within) at h in
    ⊎_elim
    (λ had. inl (rw e had))
    (λ (has : bit_at (2 ^ (b % 64)) (j % 64) ≡ 1). ⊎_elim
    (λ (same : j % 64 ≡ b % 64). inr (at.0, omega (arith, at.1)))
    (λ (ne : j % 64 ≡ b % 64 → ⊥). absurd (omega (arith, bit_at-pow_other (b % 64) (j % 64) ne)))
    (cases_eq (j % 64) (b % 64)))
    (bit_or_cases _ _ (j % 64) h'))
    (λ (ne : i * w + j / 64 ≡ a * w + b / 64 → ⊥). inl (rw (get_or-set_other t (a * w + b / 64) (i * w + j / 64) (bit_or (get_or t (a * w + b / 64) 0) (2 ^ (b % 64))) 0 ne) at h))
    (cases_eq (i * w + j / 64) (a * w + b / 64))

pub HasBit-raises : (w a b : ℕ) (t : List ℕ) → a * w + b / 64 < length t → HasBit w (set t (a * w + b / 64) (bit_or (get_or t (a * w + b / 64) 0) (2 ^ (b % 64)))) a b
unfolding HasBit
HasBit-raises w a b t within =
    rw (get_or-set_same t (a * w + b / 64) (bit_or (get_or t (a * w + b / 64) 0) (2 ^ (b % 64))) 0 within) (bit_or_right _ _ (b % 64) (bit_at-pow_same (b % 64)))
