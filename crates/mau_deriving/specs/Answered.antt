-- Conditions of memberships that were answered.
use Rattle.std.specs.Prelude.{◌≡◌, ℕ, Bool, List, Option, is_some}
use Rattle.mau_evaluation.specs.Run.{done}
use Rattle.mau_evaluation.specs.Program.{Fragment, Program}
use Rattle.mau_evaluation.specs.Evaluation.{Binding, solve_at}

-- by some number of levels, with B as the budget of its own, the condition has a solution, or has none
pub record WasAnswered (P : Program) (B : ℕ) (c : List Fragment) (σ : Binding) (holds : Bool) : Type 0 where
  pub levels : ℕ
  pub solution : Option Binding
  pub count : ℕ
  pub left : ℕ
  pub was : solve_at P levels B c σ B ≡ done solution count left
  pub is : is_some solution ≡ holds
