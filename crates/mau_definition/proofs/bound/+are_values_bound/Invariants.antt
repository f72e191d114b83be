use Rattle.std.proofs.Common.{length}
use Rattle.mau_definition.proofs.bound.+are_values_bound.Given as goal

abbrev pub decreases-are_values_bound : goal.decreases-are_values_bound
decreases-are_values_bound l = length l.uses.now
