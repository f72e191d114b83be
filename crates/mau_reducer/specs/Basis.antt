-- What an evaluator goes by, which no call changes.
use Rattle.std.specs.Prelude.{◌≡◌, ℕ, suc, List, false, All, slice_index_or, length}
use Rattle.mau_terms.specs.Subst.{Variable}
use Rattle.mau_signature.specs.Signature.{SignatureOf, IsOperator}
use Rattle.mau_formula.specs.Operator.{Operator}
use Rattle.mau_program.specs.declared.program.Program.{Program}
use Rattle.mau_program.specs.declared.statements.Fragment.{Fragment}
use Rattle.mau_program.specs.LawfulPrograms.{IsLawfulProgram}
use Rattle.mau_api.specs.BuiltIns.{built_in_at, name_at}
use Rattle.mau_api.specs.Answers.{IsAskable}
use Rattle.mau_reduce.specs.declared.built_in.BuiltIn.{BuiltIn}
use Rattle.mau_reduce.specs.declared.built_in.BuiltIn.TheVariants.{Nothing}
use Rattle.mau_reduce.specs.BuiltOperators.{meaning_of}
use Rattle.mau_reduce.specs.Giving.{GivesInKind}
use Rattle.mau_reduce.specs.Reducible.{IsReducible}
use Rattle.mau_reduce.specs.declared.compiling.Compiled.{Compiled}
use Rattle.mau_reduce.specs.Compiled.{IsCompiled}

-- no membership is executable
abbrev pub DerivesNothing : Program → Type 0
DerivesNothing p = All (λ m. m.exec ≡ false) p.memberships

-- there is one for each operator, in their order, and it is what is built in of it
pub record AreBuiltIns (s : SignatureOf) (hooks : List Operator) (bs : List BuiltIn) : Type 0 where
  pub one_each : length bs ≡ length s.declarations
  pub built_in : (i : ℕ) → IsOperator s (suc i) → built_in_at s hooks (suc i) ≡ meaning_of hooks (name_at s (suc i)) (slice_index_or bs i Nothing)

-- a program, its native operators, the budget of an item, the compiled equations, what is built in of its operators, and a condition that is asked with
-- the variables that have values before it
pub record Basis : Type 0 where
  pub program : Program
  pub hooks : List Operator
  pub limit : ℕ
  pub compiled : Compiled
  pub built_ins : List BuiltIn
  pub asked : List Fragment
  pub asked_under : List Variable

-- the same with another condition that is asked
abbrev pub asking : Basis → List Fragment → List Variable → Basis
asking b fs xs = record b { asked = fs; asked_under = xs }

-- the program is lawful and derives no sorts, built-ins give terms of their operators' kinds, and the rest is as it says
pub record IsBasis (b : Basis) : Type 0 where
  pub lawful : IsLawfulProgram b.program
  pub reducible : IsReducible b.program
  pub gives : GivesInKind b.program.sig b.hooks
  pub compiled : IsCompiled b.program b.compiled
  pub built_ins : AreBuiltIns b.program.sig b.hooks b.built_ins
  pub askable : IsAskable b.program.sig b.asked_under b.asked
