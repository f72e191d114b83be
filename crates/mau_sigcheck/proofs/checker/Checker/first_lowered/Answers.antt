use Rattle.mau_sigcheck.proofs.Identities.{first_by_identity, none_by_identity, none_without_identity}
use Rattle.mau_sigcheck.proofs.checker.Checker.first_lowered.Goals as goal

pub returns-in-Some-clause-some : goal.returns-in-Some-clause-some
returns-in-Some-clause-some c =
    first_by_identity c.args.self.now c.args.op.0 c.in-Some.identity c.first_lowered_by.result c.in-Some.ensures.value c.in-Some.ensures.one c.first_lowered_by.ensures.some

pub returns-in-Some-clause-none : goal.returns-in-Some-clause-none
returns-in-Some-clause-none c =
    none_by_identity c.args.self.now c.args.op.0 c.in-Some.identity c.first_lowered_by.result c.in-Some.ensures.one c.first_lowered_by.ensures.none

pub returns-in-None-clause-none : goal.returns-in-None-clause-none
returns-in-None-clause-none c = none_without_identity c.args.self.now c.args.op.0 c.in-None.ensures.one
