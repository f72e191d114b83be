use Rattle.std.proofs.Common.{length}
use Rattle.mau_signature.proofs.judge.+is_strategy.Given as goal

abbrev pub decreases-is_strategy : goal.decreases-is_strategy
decreases-is_strategy l = length l.numbers.now
