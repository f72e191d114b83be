use Rattle.std.proofs.Common.{◌≡◌, List, false, All, subst}
use Rattle.mau_program.specs.declared.statements.Rule.{Rule}
use Rattle.mau_evaluation.specs.Rules.{has_reach}
use Rattle.mau_api.specs.Programs.{rule_of}
use Rattle.mau_strategy_tests.proofs.NoReach.{runnable}
use Rattle.mau_strategy_tests.proofs.runnable.may_be_run.Goals as goal

pub returns : goal.returns
returns c e =
    runnable c.args.program.now c.requires c.is_lawful.ensures.lawful
    (subst (λ (qs : List Rule). All (λ q. has_reach (rule_of q).cond ≡ false) qs) c.items.ensures (c.none_reaches.ensures e))
