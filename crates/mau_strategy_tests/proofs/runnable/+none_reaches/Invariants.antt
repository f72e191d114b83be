use Rattle.std.proofs.Common.{length}
use Rattle.mau_strategy_tests.proofs.runnable.+none_reaches.Given as goal

abbrev pub decreases-none_reaches : goal.decreases-none_reaches
decreases-none_reaches l = length l.rules.now
