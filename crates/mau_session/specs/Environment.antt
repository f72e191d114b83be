-- What the answers of a session go by.
use Rattle.std.specs.Prelude.{ℕ, List, Bool, false}
use Rattle.mau_formula.specs.Operator.{Operator}
use Rattle.mau_api.specs.Meanings.{Meanings, meanings_by}
use Rattle.mau_module.specs.Modules.{ModuleOf}
use Rattle.mau_module.specs.Lawful.{program_of}

-- the native operators, the budget of each item, and whether results are remembered
pub record Environment : Type 0 where
  pub operators : List Operator
  pub budget : ℕ
  pub remembers : Bool

-- that of a session with these operators and this budget: no results are remembered
abbrev pub environment_of : List Operator → ℕ → Environment
environment_of operators budget = record { operators = operators; budget = budget; remembers = false }

-- what evaluation means in a module
abbrev pub meanings_in : Environment → ModuleOf → Meanings
meanings_in e m = meanings_by (program_of m) e.operators e.budget e.remembers
