-- Computations that are another one by enough levels.
use Rattle.std.specs.Prelude.{◌≡◌, ◌⊎◌, ◌<◌, ℕ, true}
use Rattle.mau_terms.specs.Finite.{IsIn}
use Rattle.mau_evaluation.specs.Run.{Run, ended, too_deep}
use Rattle.mau_evaluation.specs.Program.{Membership, Program}

-- no membership is executable
abbrev pub DerivesNone : Program → Type 0
DerivesNone P = (m : Membership) → IsIn m P.memberships → m.exec ≡ true → ⊥

-- by each number of levels f is g; by fewer than some number it may be too deep instead. Where no membership is executable, it is so by all numbers.
pub record ComesTo (P : Program) {A : Type 0} (f g : ℕ → Run A) : Type 0 where
  pub enough : ℕ
  pub just : DerivesNone P → enough ≡ 0
  pub comes : (k b : ℕ) → (f k b ≡ g k b) ⊎ ((k < enough) × (f k b ≡ ended too_deep))
