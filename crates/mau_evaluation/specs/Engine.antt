-- An evaluator as rules and strategies use it: what it gives under fixed limits.
use Rattle.std.specs.Prelude.{◌≡◌, ◌+◌, ℕ, suc, List, Option}
use Rattle.mau_evaluation.specs.Run.{Run, Grows}
use Rattle.mau_evaluation.specs.Program.{Fragment, Program}
use Rattle.mau_evaluation.specs.Evaluation.{Binding, Level, levels, solve, solve_after}
use Rattle.mau_evaluation.specs.Larger.{IsLargerLevel}

pub record Engine : Type 0 where
  -- evaluation and sorts of terms outside conditions
  pub level : Level
  -- those of terms in conditions, which stand one level deeper
  pub below : Level
  -- the first solution of a condition under what is bound, and the next one behind a solution
  pub ask : List Fragment → Binding → Run (Option Binding)
  pub ask_after : Binding → List Fragment → Binding → Run (Option Binding)
  -- the budget with which each evaluation outside conditions, and each asking of a condition, begins
  pub budget : ℕ

-- the evaluation of the definitions with k + 1 levels, so that terms in conditions have k; B is the budget of each membership's condition, b that of
-- each evaluation and of each asking
abbrev pub engine_of : Program → ℕ → ℕ → ℕ → Engine
engine_of P k B b = record
    { level = levels P B (suc k); below = levels P B k; ask = solve P (levels P B k); ask_after = solve_after P (levels P B k); budget = b }

-- L' answers as L does, but under larger limits: what is a value or Overflow with L is the same with L'
pub record IsLargerEngine (L L' : Engine) : Type 0 where
  pub level_larger : IsLargerLevel L.level L'.level
  pub below_larger : IsLargerLevel L.below L'.below
  pub ask_grows : (c : List Fragment) (σ : Binding) → Grows (L.ask c σ) (L'.ask c σ)
  pub ask_after_grows : (last : Binding) (c : List Fragment) (σ : Binding) → Grows (L.ask_after last c σ) (L'.ask_after last c σ)
  pub added : ℕ
  pub budget_larger : L'.budget ≡ L.budget + added

-- an evaluator at all limits: levels, the budget of each membership's condition, the budget of each evaluation and asking
abbrev pub Engines : Type 0
Engines = ℕ → ℕ → ℕ → Engine
