-- What holds of each number from a low one on.
use Rattle.std.proofs.Common.{◌≡◌, ℕ, ◌+◌, ◌<◌, ◌≤◌, subst, arith, ⊎_elim}
use Rattle.std.proofs.lemmas.Bool.{cases_lt}

-- one number more
pub one_more : (P : ℕ → Type 0) (low e : ℕ) → ((m : ℕ) → low ≤ m → m < e → P m) → P e → (m : ℕ) → low ≤ m → m < e + 1 → P m
one_more P low e below here m l h =
    ⊎_elim
    (λ (less : m < e). below m l less)
    (λ (most : e ≤ m). let same : e ≡ m = omega arith in subst P same here)
    (cases_lt m e)
