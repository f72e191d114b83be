use Rattle.std.proofs.Common.{arith}
use Rattle.mau_match.proofs.Uneven.{sum_less, sum_few}
use Rattle.mau_match.proofs.sums.+sum.Goals as goal

pub is_sum_with-loop-left-preserved : goal.is_sum_with-loop-left-preserved
is_sum_with-loop-left-preserved t c = λ h. (sum_less c.args.first c.args.rest.now c.loop-left.left (c.loop-left.invariant h) (c.is_sum.ensures c.if-is_sum.false)).1

pub is_sum_with-returns : goal.is_sum_with-returns
is_sum_with-returns t c = λ no h. c.is_sum-2.ensures no (sum_few c.args.first c.args.rest.now c.loop-left.left (omega (arith, c.loop-left-test.false)) (c.loop-left.invariant h))
