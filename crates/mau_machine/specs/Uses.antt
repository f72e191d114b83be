-- One use of a statement, as it is told.
use Rattle.std.specs.Prelude.{◌≡◌, ◌⊎◌, ℕ, List, [], ◌∷◌, true, Some}
use Rattle.mau_terms.specs.Tree.{Tree}
use Rattle.mau_terms.specs.Subst.{Variable, value_at, instance}
use Rattle.mau_terms.specs.View.{tree_of}
use Rattle.mau_terms.specs.declared.ids.OpId.{OpId}
use Rattle.mau_formula.specs.Operator.{Operator}
use Rattle.mau_program.specs.declared.program.Program.{Program}
use Rattle.mau_program.specs.declared.statements.Fragment.{Fragment}
use Rattle.mau_program.specs.declared.statements.Fragment.TheVariants.{Equal, Match, Sort, Reach}
use Rattle.mau_program.specs.declared.statements.Equation.{Equation}
use Rattle.mau_evaluation.specs.Evaluation.{Binding, look_up}
use Rattle.mau_api.specs.declared.step.Statement.TheVariants.{Equation as ByEquation, BuiltIn}
use Rattle.mau_api.specs.Told.{StepOf, IsInstance, IsBuiltStep, LeadsOver}
use Rattle.mau_api.specs.Variables.{numbered, statement_variables}

-- the terms of the fragments have the same instances
abbrev pub SameInstances : (Variable → Tree) → (Variable → Tree) → List Fragment → Type 0
SameInstances g h [] = Unit {0}
SameInstances g h (Equal t u ∷ cs) = (instance g (tree_of t) ≡ instance h (tree_of t)) × (instance g (tree_of u) ≡ instance h (tree_of u)) × SameInstances g h cs
SameInstances g h (Match q u ∷ cs) = (instance g (tree_of q) ≡ instance h (tree_of q)) × (instance g (tree_of u) ≡ instance h (tree_of u)) × SameInstances g h cs
SameInstances g h (Sort t r ∷ cs) = (instance g (tree_of t) ≡ instance h (tree_of t)) × SameInstances g h cs
SameInstances g h (Reach t u ∷ cs) = Unit {0}

module _ (p : Program) (hooks : List Operator) (P : ℕ → Tree → Type 0) where
  -- an equation with this condition, which σ solves, leads from the term t at hand to u
  pub record IsEquationUse (cond : List Fragment) (σ : Binding) (t u : Tree) (x : StepOf) : Type 0 where
    pub number : ℕ
    pub equation : Equation
    pub numbered : numbered p.equations number ≡ Some equation
    pub exec : equation.exec ≡ true
    pub condition : equation.cond ≡ cond
    pub statement : x.statement ≡ ByEquation number
    pub instance : IsInstance p.sig P (statement_variables (tree_of equation.left) equation.cond (tree_of equation.right)) (tree_of equation.left) (tree_of equation.right) x
    pub same : SameInstances (look_up σ) (value_at (statement_variables (tree_of equation.left) equation.cond (tree_of equation.right)) x.values) cond
    pub leads : LeadsOver p.sig x t u

  -- a built-in does, which has no condition
  pub record IsBuiltInUse (cond : List Fragment) (t u : Tree) (x : StepOf) : Type 0 where
    pub operator : OpId
    pub condition : cond ≡ []
    pub statement : x.statement ≡ BuiltIn operator
    pub built : IsBuiltStep p hooks operator.0 x
    pub leads : LeadsOver p.sig x t u

  abbrev pub IsUse : List Fragment → Binding → Tree → Tree → StepOf → Type 0
  IsUse cond σ t u x = IsEquationUse cond σ t u x ⊎ IsBuiltInUse cond t u x
