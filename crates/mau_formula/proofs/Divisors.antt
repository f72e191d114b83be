-- The greatest common divisor is the greatest number that divides both.
use Rattle.std.proofs.Common.{◌≡◌, ℕ, zero, suc, ◌+◌, ◌<◌, ◌≤◌, Bool, true, false, ◌&&◌, cond, refl, sym, ◌∙◌, ap, arith, eqb-true, eq-eqb, inl, inr, ◌⊎◌}
use Rattle.std.proofs.lemmas.Bool.{false≢true, cases_lt, and_from, and_parts, false_from_ne_true}
use Rattle.std.specs.Int.{IsGcd, ◌∣◌}
use Rattle.std.proofs.lemmas.Nat.Gcd.{dvd-zero, le_of_dvd, dvd_of_mod-eq-zero, mod-eq-zero_of_dvd}
use Rattle.std.proofs.Math.Nat.{eq-zero_of_zero-dvd}
use Rattle.mau_formula.specs.Divisor.{divides, greatest, gcd_of}

-- g is the greatest that passes: all above it fail
pub greatest_is : (test : ℕ → Bool) (bound g : ℕ) → g ≤ bound → (0 < g → test g ≡ true) → ((d : ℕ) → g < d → d ≤ bound → test d ≡ false) → g ≡ greatest test bound
unfolding greatest
greatest_is test zero g h passes above = omega arith
greatest_is test (suc n) g h passes above = by (test (suc n)) refl (cases_lt g (suc n)) (λ l. greatest_is test n g l passes (λ d a b. above d a (omega arith)))
  where
    by : (t : Bool) → test (suc n) ≡ t → (g < suc n) ⊎ (suc n ≤ g) → (g ≤ n → g ≡ greatest test n) → g ≡ cond t (suc n) (greatest test n)
    by true e (inl l) lower = absurd (false≢true (sym (above (suc n) l (omega arith)) ∙ e))
    by true e (inr l) lower = omega arith
    by false e (inl l) lower = lower (omega arith)
    by false e (inr l) lower =
        let same : g ≡ suc n = omega arith in
        absurd (false≢true (sym e ∙ ap test (sym same) ∙ passes (omega arith)))

-- what divides both passes the test, and the other way round
both_true : (d a b : ℕ) → d ∣ a → d ∣ b → (divides d a && divides d b) ≡ true
both_true d a b h k = and_from (divides d a) (divides d b) (eq-eqb _ _ (mod-eq-zero_of_dvd d h)) (eq-eqb _ _ (mod-eq-zero_of_dvd d k))

both_divide : (d a b : ℕ) → (divides d a && divides d b) ≡ true → (d ∣ a) × (d ∣ b)
both_divide d a b e =
    let parts = and_parts (divides d a) (divides d b) e in
    (dvd_of_mod-eq-zero d (eqb-true _ _ parts.0), dvd_of_mod-eq-zero d (eqb-true _ _ parts.1))

-- a greatest common divisor is not above the sum: where both are 0 every number divides it, and it is 0
below_sum : (a b g : ℕ) → IsGcd a b g → g ≤ a + b
below_sum a b g h = by (cases_lt 0 a) (cases_lt 0 b)
  where
    zeros : a ≡ 0 → b ≡ 0 → (0 < g) ⊎ (g ≤ 0) → g ≤ a + b
    zeros p q (inr l) = omega arith
    zeros p q (inl l) =
        let over : suc g ∣ g = h.2 (suc g) (rw p (dvd-zero (suc g))) (rw q (dvd-zero (suc g))) in
        absurd (omega (arith, le_of_dvd l over))

    by : (0 < a) ⊎ (a ≤ 0) → (0 < b) ⊎ (b ≤ 0) → g ≤ a + b
    by (inl l) _ = omega (arith, le_of_dvd l h.0)
    by _ (inl l) = omega (arith, le_of_dvd l h.1)
    by (inr l) (inr k) = zeros (omega arith) (omega arith) (cases_lt 0 g)

-- the one that every common divisor divides is the greatest
pub gcd_is : (a b g : ℕ) → IsGcd a b g → g ≡ gcd_of a b
gcd_is a b g h =
    greatest_is (λ d. divides d a && divides d b) (a + b) g (below_sum a b g h) (λ _. both_true g a b h.0 h.1)
    (λ d l k. false_from_ne_true _ (λ e. above d l k (both_divide d a b e)))
  where
    none : g ≡ 0 → a + b ≡ 0
    none e =
        let p : a ≡ 0 = eq-zero_of_zero-dvd (rw (sym e) h.0) in
        let q : b ≡ 0 = eq-zero_of_zero-dvd (rw (sym e) h.1) in
        omega arith

    above : (d : ℕ) → g < d → d ≤ a + b → (d ∣ a) × (d ∣ b) → ⊥
    above d l k parts = by (cases_lt 0 g)
      where
        by : (0 < g) ⊎ (g ≤ 0) → ⊥
        by (inl p) = omega (arith, le_of_dvd p (h.2 d parts.0 parts.1))
        by (inr p) = omega (arith, none (omega arith))
