use Rattle.mau_sigcheck.proofs.Results.{answer_is_given}
use Rattle.mau_sigcheck.proofs.checker.Checker.result_of.Goals as goal

pub returns-clause-one : goal.returns-clause-one
returns-clause-one c =
    answer_is_given c.args.self.now c.self.inside.sig.now c.args.op.0 c.args.sorts.now c.least_result.result c.self.view_is c.self.invariant.poset
    c.least_result.ensures.value c.least_result.ensures.none
