use Rattle.std.proofs.Common.{length}
use Rattle.mau_searched.proofs.rules.+add_all_matched.Given as goal

abbrev pub decreases-add_all_matched : goal.decreases-add_all_matched
decreases-add_all_matched l = length l.fragments.now
