-- Lawful programs: those of accepted modules. All that runs a program may rest on this.
use Rattle.std.specs.Prelude.{◌≡◌, All, length}
use Rattle.mau_signature.specs.Made.{IsSignature}
use Rattle.mau_sigcheck.specs.Built.{IsBuiltAndAccepted}
use Rattle.mau_program.specs.declared.program.Program.{Program}
use Rattle.mau_program.specs.BuiltIns.{AreBuiltIn}
use Rattle.mau_program.specs.LawfulStatements.{IsLawfulEquation, IsLawfulMembership, IsLawfulRule}
use Rattle.mau_program.specs.LawfulStrategies.{IsLawfulDefinition}

-- The signature was built and accepted, and there is a name for each sort. What has something built in is declared as in the prelude. All
-- statements and all definitions of strategies are lawful.
pub record IsLawfulProgram (p : Program) : Type 0 where
  pub made : IsSignature p.sig
  pub accepted : IsBuiltAndAccepted p.sig
  pub named : length p.sorts ≡ p.sig.hierarchy.sorts
  pub built_ins : AreBuiltIn p.sorts p.sig
  pub equations : All (IsLawfulEquation p.sig) p.equations
  pub memberships : All (IsLawfulMembership p.sig) p.memberships
  pub rules : All (IsLawfulRule p.sig) p.rules
  pub strategies : All (IsLawfulDefinition p.sig) p.strategies
