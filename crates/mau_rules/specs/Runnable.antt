-- Programs whose rules are run, and evaluators that go by the definitions.
use Rattle.std.specs.Prelude.{◌≡◌, true, false, List, map, All}
use Rattle.mau_terms.specs.Finite.{IsIn}
use Rattle.mau_formula.specs.Operator.{Operator}
use Rattle.mau_program.specs.declared.program.Program as Typed
use Rattle.mau_program.specs.LawfulStatements.{IsLawfulRule}
use Rattle.mau_evaluation.specs.Program.{Rule}
use Rattle.mau_evaluation.specs.HasSort.{HasHeads}
use Rattle.mau_evaluation.specs.Rules.{has_reach}
use Rattle.mau_api.specs.Programs.{rule_of, program_over}
use Rattle.mau_api.specs.Meanings.{Meanings, meanings_by}
use Rattle.mau_reduce.specs.Reducible.{IsReducible}

-- terms of the program may be evaluated, and its rules are lawful; no condition of an executable rule has a rewriting fragment
pub record IsRunnable (p : Typed.Program) : Type 0 where
  pub reducible : IsReducible p
  pub heads : (hooks : List Operator) → HasHeads (program_over p hooks)
  pub rules : All (IsLawfulRule p.sig) p.rules
  pub no_reach : (q : Rule) → IsIn q (map rule_of p.rules) → q.exec ≡ true → has_reach q.cond ≡ false

-- an evaluator's meanings are those of the definitions, for this program
pub record GoesBy (p : Typed.Program) (m : Meanings) : Type 0 where
  pub program : m.program ≡ p
  pub defined : m ≡ meanings_by p m.hooks m.limit m.remembers
