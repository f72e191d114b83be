use Rattle.std.proofs.Common.{length}
use Rattle.mau_statement.proofs.binding.+unbound_behind.Given as goal

abbrev pub decreases-unbound_behind : goal.decreases-unbound_behind
decreases-unbound_behind l = length l.fragments.now
