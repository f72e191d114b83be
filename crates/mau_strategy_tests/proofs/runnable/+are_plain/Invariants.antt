use Rattle.std.proofs.Common.{length}
use Rattle.mau_strategy_tests.proofs.runnable.+are_plain.Given as goal

abbrev pub decreases-are_plain : goal.decreases-are_plain
decreases-are_plain l = length l.cond.now
