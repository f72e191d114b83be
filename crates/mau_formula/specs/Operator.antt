-- A native operator, and one of a name among several.
use Rattle.std.specs.Prelude.{◌≡◌, ℕ, ◌<◌, List, Option, find}
use Rattle.std.specs.Str.{bytes_eq}
use Rattle.mau_formula.specs.Expr.{Expr}
use Rattle.mau_formula.specs.declared.formula.Gives.{Gives}
use Rattle.mau_formula.specs.declared.formula.Gives.TheVariants.{Bool}
use Rattle.mau_formula.specs.declared.formula.HookAnswer.{HookAnswer}
use Rattle.mau_formula.specs.declared.formula.HookAnswer.TheVariants.{Value}

-- its name, what it computes, and what its answers stand for
pub record Operator : Type 0 where
  pub name : List ℕ
  pub formula : Expr
  pub gives : Gives

-- the operator of this name
abbrev pub operator_named : List Operator → List ℕ → Option Operator
operator_named ops name = find (λ o. bytes_eq o.name name) ops

-- a value that stands for `false` or `true` is 0 or 1
abbrev pub StandsFor : Gives → HookAnswer → Type 0
StandsFor gives r = (n : ℕ) → gives ≡ Bool → r ≡ Value n → n < 2
