use Rattle.std.proofs.Common.{length}
use Rattle.mau_leaves.proofs.testing.+are_fragments.Given as goal

abbrev pub decreases-are_fragments : goal.decreases-are_fragments
decreases-are_fragments l = length l.cond.now
