-- The step that is told of a candidate.
use Rattle.std.specs.Prelude.{◌≡◌, ℕ, suc, List, [], true, Option, Some, None, slice_get}
use Rattle.mau_terms.specs.Tree.{Tree}
use Rattle.mau_terms.specs.Subst.{Variable}
use Rattle.mau_terms.specs.View.{tree_of}
use Rattle.mau_terms.specs.declared.ids.OpId.{OpId}
use Rattle.mau_formula.specs.Operator.{Operator}
use Rattle.mau_program.specs.declared.program.Program as Typed
use Rattle.mau_program.specs.declared.statements.Equation as Written
use Rattle.mau_api.specs.declared.step.Statement.TheVariants.{Equation as ByEquation, BuiltIn}
use Rattle.mau_api.specs.Told.{StepOf, IsInstance, IsBuiltStep, LeadsOver}
use Rattle.mau_api.specs.Variables.{statement_variables}

-- the variables of the equation with the number i, by first occurrence in left side, condition and right side; behind all equations there are none
abbrev pub equation_variables_of : Option Written.Equation → List Variable
equation_variables_of (Some e) = statement_variables (tree_of e.left) e.cond (tree_of e.right)
equation_variables_of None = []

abbrev pub equation_variables : Typed.Program → ℕ → List Variable
equation_variables p i = equation_variables_of (slice_get p.equations i)

-- the equation with the number i leads from the term t to u, where vs are the values of its variables; P r v says that v has the sort r
pub record IsEquationStep (p : Typed.Program) (P : ℕ → Tree → Type 0) (i : ℕ) (vs : List Tree) (t u : Tree) (x : StepOf) : Type 0 where
  pub equation : Written.Equation
  pub at : slice_get p.equations i ≡ Some equation
  pub exec : equation.exec ≡ true
  -- as it is shown, it is counted from 1
  pub statement : x.statement ≡ ByEquation (suc i)
  pub values : x.values ≡ vs
  pub instance : IsInstance p.sig P (statement_variables (tree_of equation.left) equation.cond (tree_of equation.right)) (tree_of equation.left) (tree_of equation.right) x
  pub leads : LeadsOver p.sig x t u

-- what is built in of the top of t does
pub record IsBuiltInStep (p : Typed.Program) (hooks : List Operator) (t u : Tree) (x : StepOf) : Type 0 where
  pub operator : OpId
  pub statement : x.statement ≡ BuiltIn operator
  pub built : IsBuiltStep p hooks operator.0 x
  pub leads : LeadsOver p.sig x t u
