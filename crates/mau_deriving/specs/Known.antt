-- Computations that are known from some number of levels on, and those that end where another one ends.
use Rattle.std.specs.Prelude.{◌≡◌, ◌⊎◌, ℕ, ◌<◌, List, [], ◌∷◌}
use Rattle.mau_evaluation.specs.Run.{End, too_deep, Outcome, done, ended, Run}

-- f is computed by a number of levels. It gives x, counts nothing and leaves the budget; by fewer levels than some number it may be too deep instead
pub record IsKnownFrom {A : Type 0} (f : ℕ → Run A) (x : A) : Type 0 where
  pub enough : ℕ
  pub known : (j b : ℕ) → (f j b ≡ done x 0 b) ⊎ ((j < enough) × (f j b ≡ ended too_deep))

-- where g ends, f ends so too; by fewer levels than some number it may be too deep instead
pub record EndsWith {A B : Type 0} (f : ℕ → Run A) (g : ℕ → Outcome B) : Type 0 where
  pub enough : ℕ
  pub ends : (j b : ℕ) (e : End) → g j ≡ ended e → (f j b ≡ ended e) ⊎ ((j < enough) × (f j b ≡ ended too_deep))

-- each of these is known
abbrev pub AreKnownFrom : {A B : Type 0} → (ℕ → A → Run B) → List A → List B → Type 0
AreKnownFrom f [] [] = Unit {0}
AreKnownFrom f [] (y ∷ ys) = ⊥
AreKnownFrom f (x ∷ xs) [] = ⊥
AreKnownFrom f (x ∷ xs) (y ∷ ys) = IsKnownFrom (λ j. f j x) y × AreKnownFrom f xs ys
