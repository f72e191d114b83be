use Rattle.std.proofs.Common.{◌+◌, ◌*◌, ◌∷◌, length}
use Rattle.mau_match.specs.Sums.{IsSum}
use Rattle.mau_match.proofs.sums.+sum.Given as goal

abbrev pub decreases-is_sum : goal.decreases-is_sum
decreases-is_sum l = 2 * length l.counts.now

abbrev pub decreases-is_sum_with : goal.decreases-is_sum_with
decreases-is_sum_with l = 2 * length l.rest.now + 1

-- where the number is a sum, so is what is left of it
abbrev pub invariant-is_sum_with-loop-left : goal.invariant-is_sum_with-loop-left
invariant-is_sum_with-loop-left l = IsSum (l.first ∷ l.rest) l.n → IsSum (l.first ∷ l.rest) l.left

abbrev pub decreases-is_sum_with-loop-left : goal.decreases-is_sum_with-loop-left
decreases-is_sum_with-loop-left l = l.left
