-- The laws of one limit alone: more levels turn only Too deep into something else, and more budget only Stopped.
use Rattle.std.specs.Prelude.{◌≡◌, ◌⊎◌, ℕ, ◌+◌, ◌≤◌, List}
use Rattle.mau_terms.specs.Tree.{Tree}
use Rattle.mau_evaluation.specs.Run.{Run, Outcome, done, ended, stopped, too_deep}
use Rattle.mau_evaluation.specs.Program.{Fragment, Program}
use Rattle.mau_evaluation.specs.Evaluation.{Binding, eval, sorts_at, solve_at, solve_after_at}

-- ---- levels

-- from each budget the first is too deep, or both are the same
abbrev pub IsHigher : {A : Type 0} → Run A → Run A → Type 0
IsHigher m m' = (b : ℕ) → (m b ≡ ended too_deep) ⊎ (m b ≡ m' b)

-- an outcome other than too deep stays as it is under more levels, whatever it is
abbrev pub LevelsAlone : Type 0
LevelsAlone =
    ((P : Program) (k k' B : ℕ) → k ≤ k' → (t : Tree) → IsHigher (eval P k B t) (eval P k' B t)) ×
    ((P : Program) (k k' B : ℕ) → k ≤ k' → (t : Tree) → IsHigher (sorts_at P k B t) (sorts_at P k' B t)) ×
    ((P : Program) (k k' B : ℕ) → k ≤ k' → (c : List Fragment) (σ : Binding) → IsHigher (solve_at P k B c σ) (solve_at P k' B c σ)) ×
    ((P : Program) (k k' B : ℕ) → k ≤ k' → (last : Binding) (c : List Fragment) (σ : Binding) → IsHigher (solve_after_at P k B last c σ) (solve_after_at P k' B last c σ))

-- ---- budgets

-- the same with d more left
abbrev pub with_more : {A : Type 0} → ℕ → Outcome A → Outcome A
with_more d (done x r b) = done x r (b + d)
with_more d (ended e) = ended e

-- from each budget the first is stopped, or with d more the second gives the same and leaves d more
abbrev pub IsRicher : {A : Type 0} → Run A → Run A → Type 0
IsRicher m m' = (b d : ℕ) → (m b ≡ ended stopped) ⊎ (m' (b + d) ≡ with_more d (m b))

-- an outcome other than stopped stays as it is under larger budgets, that of the item and that of each condition of a membership, whatever it is
abbrev pub BudgetsAlone : Type 0
BudgetsAlone =
    ((P : Program) (k B B' : ℕ) → B ≤ B' → (t : Tree) → IsRicher (eval P k B t) (eval P k B' t)) ×
    ((P : Program) (k B B' : ℕ) → B ≤ B' → (t : Tree) → IsRicher (sorts_at P k B t) (sorts_at P k B' t)) ×
    ((P : Program) (k B B' : ℕ) → B ≤ B' → (c : List Fragment) (σ : Binding) → IsRicher (solve_at P k B c σ) (solve_at P k B' c σ)) ×
    ((P : Program) (k B B' : ℕ) → B ≤ B' → (last : Binding) (c : List Fragment) (σ : Binding) → IsRicher (solve_after_at P k B last c σ) (solve_after_at P k B' last c σ))
