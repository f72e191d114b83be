-- Programs in which no condition is solved by rules.
use Rattle.std.proofs.Common.{◌≡◌, List, true, false, All}
use Rattle.mau_terms.specs.Bare.{IsLawful}
use Rattle.mau_signature.specs.Signature.{terms_over}
use Rattle.mau_program.specs.declared.program.Program.{Program}
use Rattle.mau_program.specs.declared.statements.Rule as Written
use Rattle.mau_program.specs.LawfulPrograms.{IsLawfulProgram}
use Rattle.mau_evaluation.specs.Program.{Rule}
use Rattle.mau_evaluation.specs.Rules.{has_reach}
use Rattle.mau_api.specs.Programs.{rule_of}
use Rattle.mau_reduce.proofs.Valued.{heads_of}
use Rattle.mau_reducer.proofs.FromLawful.{in_mapped, reducible}
use Rattle.mau_rules.specs.Runnable.{IsRunnable}

pub runnable : (p : Program) → IsLawfulProgram p → IsLawful (terms_over p.sig) → All (λ q. has_reach (rule_of q).cond ≡ false) p.rules → IsRunnable p
runnable p lawful signature none = record {
  reducible = reducible p lawful signature;
  heads = heads_of p (reducible p lawful signature);
  rules = lawful.rules;
  no_reach = in_mapped rule_of (λ (q : Rule). q.exec ≡ true → has_reach q.cond ≡ false) p.rules (λ k d h e. none k d h);
}
