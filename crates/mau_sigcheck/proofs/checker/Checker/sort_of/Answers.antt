use Rattle.std.proofs.Common.{subst}
use Rattle.mau_sigcheck.specs.Accepted.{IsSortOfIdentity}
use Rattle.mau_sigcheck.proofs.checker.Checker.sort_of.Goals as goal

pub returns-in-Const-clause-one : goal.returns-in-Const-clause-one
returns-in-Const-clause-one c = λ r given. c.result_of.ensures.one r (subst (λ i. IsSortOfIdentity c.args.self.now i r) c.in-Const.is given)
