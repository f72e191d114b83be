-- All that may be applied at the top of a term: what the built-in there gives, and equations.
use Rattle.std.specs.Prelude.{ℕ, suc, List, [], Option, Some, None, slice_get}
use Rattle.mau_terms.specs.Tree.{Tree}
use Rattle.mau_terms.specs.Subst.{instance}
use Rattle.mau_terms.specs.declared.theory.Theory.{Theory}
use Rattle.mau_store.specs.Node.{Node}
use Rattle.mau_listing.specs.declared.solution.Solution as Given
use Rattle.mau_evaluation.specs.Run.{Run}
use Rattle.mau_evaluation.specs.Program.{Equation, Fragment, Program, Answer, no_value, value, too_large}
use Rattle.mau_evaluation.specs.Listing.{Solution}
use Rattle.mau_evaluation.specs.Evaluation.{Binding, look_up, levels, by_answer, in_context}
use Rattle.mau_reduce.specs.declared.given.Given.{Given as BuiltIn}
use Rattle.mau_reduce.specs.declared.trying.Found.{Found}
use Rattle.mau_reduce.specs.BuiltOperators.{answer_of}
use Rattle.mau_reduce.specs.Trying.{left_by, solution_in}

-- what is left: what the built-in gives, or else what is left of the equations
abbrev pub untried_by : Program → ℕ → ℕ → List Node → Tree → BuiltIn → Option (ℕ × Option Given.Solution) → List ℕ → Run (Option Tree)
untried_by P B k nodes t given tried is = by_answer P (levels P B k) (levels P B (suc k)).sorts (answer_of nodes P.sign.theory t given) (left_by P B k nodes t tried is)

-- the condition of a candidate; what a built-in gives has none
abbrev pub cond_in : Option Equation → List Fragment
cond_in (Some e) = e.cond
cond_in None = []

abbrev pub cond_at : Program → ℕ → List Fragment
cond_at P i = cond_in (slice_get P.equations i)

-- what an equation makes of t by the solution x, where its condition gave σ
abbrev pub made_by_one : (ℕ → Theory) → Tree → Solution → Binding → Option Equation → Tree
made_by_one th t x σ (Some e) = in_context th t x.left x.right (instance (look_up σ) e.right)
made_by_one th t x σ None = t

abbrev pub made_by : Program → List Node → Tree → Option Found → Binding → Tree
made_by P nodes t (Some y) σ = made_by_one P.sign.theory t (solution_in nodes y.solution) σ (slice_get P.equations y.number)
made_by P nodes t None σ = t

-- what the last candidate makes of t: the value that the built-in gives, or else what an equation makes of it
abbrev pub made_of : Program → List Node → Tree → Answer → Option Found → Binding → Tree
made_of P nodes t no_value last σ = made_by P nodes t last σ
made_of P nodes t (value v) last σ = v
made_of P nodes t too_large last σ = t

abbrev pub makes_of : Program → List Node → Tree → BuiltIn → Option Found → Binding → Tree
makes_of P nodes t given last σ = made_of P nodes t (answer_of nodes P.sign.theory t given) last σ
