-- What an evaluator goes by: one value, which no call changes.
use Rattle.std.specs.Prelude.{ℕ, ◌≤◌, List, Bool, Option}
use Rattle.mau_terms.specs.Tree.{Tree}
use Rattle.mau_formula.specs.Operator.{Operator}
use Rattle.mau_program.specs.declared.program.Program as Typed
use Rattle.mau_evaluation.specs.Run.{Run, NeverRises}
use Rattle.mau_evaluation.specs.Program.{Fragment, Program}
use Rattle.mau_evaluation.specs.Evaluation.{Binding, eval, sorts_at, solve_at, solve_after_at}
use Rattle.mau_evaluation.specs.Laws.{StaysTheSame}
use Rattle.mau_evaluation.specs.Higher.{IsHigher, IsRicher}
use Rattle.mau_api.specs.Programs.{program_over}

-- A program with the native operators of a table, and what evaluations, conditions and sorts are under limits: so many levels, the budget of each
-- condition of a membership, and a budget.
pub record Meanings : Type 0 where
  pub program : Typed.Program
  pub hooks : List Operator
  -- the budget of an item, which each condition of a membership has for its own
  pub limit : ℕ
  -- whether results are remembered
  pub remembers : Bool
  -- the value of a term
  pub evaluation : ℕ → ℕ → Tree → Run Tree
  -- the first solution of a condition, and the first one behind a solution
  pub solving : ℕ → ℕ → List Fragment → Binding → Run (Option Binding)
  pub solving_after : ℕ → ℕ → Binding → List Fragment → Binding → Run (Option Binding)
  -- the sorts of a term
  pub sorting : ℕ → ℕ → Tree → Run (List ℕ)

abbrev pub program_of : Meanings → Program
program_of m = program_over m.program m.hooks

-- the meanings by the definitions of evaluation
abbrev pub meanings_by : Typed.Program → List Operator → ℕ → Bool → Meanings
meanings_by p hooks limit remembers = record {
  program = p;
  hooks = hooks;
  limit = limit;
  remembers = remembers;
  evaluation = eval (program_over p hooks);
  solving = solve_at (program_over p hooks);
  solving_after = solve_after_at (program_over p hooks);
  sorting = sorts_at (program_over p hooks);
}

-- ---- laws

-- under larger limits what is given stays the same, and one limit alone changes only the end that speaks of it
pub record StaysUnderLimits {A : Type 0} (f : ℕ → ℕ → Run A) : Type 0 where
  pub stays : StaysTheSame f
  pub levels : (k k' B : ℕ) → k ≤ k' → IsHigher (f k B) (f k' B)
  pub budgets : (k B B' : ℕ) → B ≤ B' → IsRicher (f k B) (f k B')

pub record AreMeanings (m : Meanings) : Type 0 where
  pub evaluation : (t : Tree) → StaysUnderLimits (λ k B. m.evaluation k B t)
  pub solving : (c : List Fragment) (σ : Binding) → StaysUnderLimits (λ k B. m.solving k B c σ)
  pub solving_after : (last : Binding) (c : List Fragment) (σ : Binding) → StaysUnderLimits (λ k B. m.solving_after k B last c σ)
  pub sorting : (t : Tree) → StaysUnderLimits (λ k B. m.sorting k B t)
  -- what is counted and what is left are together at most the budget
  pub evaluation_falls : (k B : ℕ) (t : Tree) → NeverRises (m.evaluation k B t)
  pub solving_falls : (k B : ℕ) (c : List Fragment) (σ : Binding) → NeverRises (m.solving k B c σ)

-- the meanings by the definitions have them
abbrev pub MeaningsAreLawful : Type 0
MeaningsAreLawful = (p : Typed.Program) (hooks : List Operator) (limit : ℕ) (remembers : Bool) → AreMeanings (meanings_by p hooks limit remembers)
