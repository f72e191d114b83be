use Rattle.mau_lists.proofs.Adjacent.{AreAscendingTo}
use Rattle.mau_lists.proofs.sorted.are_sorted.Given as goal

abbrev pub invariant-loop-i : goal.invariant-loop-i
invariant-loop-i l = AreAscendingTo l.store l.items l.i
