use Rattle.std.proofs.Common.{length}
use Rattle.mau_leaves.proofs.bodies.+has_reach.Given as goal

abbrev pub decreases-has_reach : goal.decreases-has_reach
decreases-has_reach l = length l.cond.now
