use Rattle.std.proofs.Common.{arith}
use Rattle.mau_sigcheck.proofs.Results.{one_exactly}
use Rattle.mau_sigcheck.proofs.checker.Checker.brackets_agree.Goals as goal

pub returns-in-len3 : goal.returns-in-len3
returns-in-len3 c =
    one_exactly c.args.self.now c.args.op.0 c.args.sorts.now c.from_left.result c.from_right.result c.are_one.result (omega arith) (omega arith)
    c.from_left.ensures.value c.from_left.ensures.one c.from_right.ensures.value c.from_right.ensures.one c.are_one.ensures
