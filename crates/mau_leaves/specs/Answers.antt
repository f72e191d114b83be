-- What the answers of an evaluator say of its engines, each asked with the whole budget of an item.
use Rattle.std.specs.Prelude.{◌≡◌, ℕ, List, [], Option, Result, Ok, Err}
use Rattle.std.specs.Option.{option_map}
use Rattle.mau_terms.specs.Tree.{Tree}
use Rattle.mau_terms.specs.declared.ids.TermId.{TermId}
use Rattle.mau_terms.specs.declared.ids.VarId.{VarId}
use Rattle.mau_store.specs.Node.{Node}
use Rattle.mau_store.specs.Trees.{tree_at}
use Rattle.mau_evaluation.specs.Run.{stopped, too_deep, overflowed, done, Run}
use Rattle.mau_evaluation.specs.Program.{Fragment, Program}
use Rattle.mau_evaluation.specs.Evaluation.{Binding}
use Rattle.mau_evaluation.specs.Engine.{Engine, engine_of}
use Rattle.mau_evaluation.specs.Answers.{Answers}
use Rattle.mau_evaluation.specs.Eventually.{Eventually}
use Rattle.mau_evaluation.specs.Questions.{Question, evaluates, EndsUnder}
use Rattle.mau_api.specs.Answers.{binding_in, levels_of_condition}
use Rattle.mau_api.specs.declared.results.EvalEnd.{EvalEnd}
use Rattle.mau_api.specs.declared.results.EvalEnd.TheVariants.{Stopped, TooDeep, Overflow, NoMemory}
use Rattle.mau_leaves.specs.Steps.{IsDue}
use Rattle.mau_leaves.specs.Uses.{question_from, condition_from}

module _ (P : Program) where
  -- from some limits on a computation gives x
  abbrev pub ComesTo : {A : Type 0} → (Engine → Run A) → A → Type 0
  ComesTo m x = Eventually (engine_of P) (λ L. (r : ℕ) × (l : ℕ) × (m L L.budget ≡ done x r l))

  -- with the levels of an item, and b for its budget, a question comes to an end
  abbrev pub QuestionEnds : ℕ → Question → EvalEnd → Type 0
  QuestionEnds b q Stopped = EndsUnder P (engine_of P) [] levels_of_condition b q stopped
  QuestionEnds b q TooDeep = EndsUnder P (engine_of P) [] levels_of_condition b q too_deep
  QuestionEnds b q Overflow = EndsUnder P (engine_of P) [] levels_of_condition b q overflowed
  QuestionEnds b q NoMemory = Unit {0}

  -- the next solution of a condition behind one, or the first; or none, or an end
  abbrev pub IsNextShown : ℕ → Option Binding → List Fragment → Binding → List Node → Result (Option (List (VarId × TermId))) EvalEnd → Type 0
  IsNextShown b last c σ nodes (Ok o) = ComesTo {A = Option Binding} (λ L. condition_from P L last c σ) (option_map (binding_in nodes) o)
  IsNextShown b last c σ nodes (Err e) = QuestionEnds b (question_from last c σ) e

  -- the value of a term, or an end
  abbrev pub GivesValue : ℕ → Tree → List Node → Result TermId EvalEnd → Type 0
  GivesValue b t nodes (Ok id) = ComesTo {A = Tree} (λ L. L.level.eval t) (tree_at nodes id.0)
  GivesValue b t nodes (Err e) = QuestionEnds b (evaluates t) e

-- ---- ends that are due

-- an end is due, with the levels of an item and b for its budget; want of memory says nothing
abbrev pub IsDueBy : {A : Type 0} → Program → ℕ → (Engine → Answers A → Type 0) → EvalEnd → Type 0
IsDueBy P b now Stopped = IsDue P (engine_of P) levels_of_condition b now stopped
IsDueBy P b now TooDeep = IsDue P (engine_of P) levels_of_condition b now too_deep
IsDueBy P b now Overflow = IsDue P (engine_of P) levels_of_condition b now overflowed
IsDueBy P b now NoMemory = Unit {0}
