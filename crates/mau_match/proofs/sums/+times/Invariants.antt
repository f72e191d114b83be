use Rattle.mau_terms.specs.View.{tree_of}
use Rattle.mau_terms.proofs.Sizes.{size, sizes_of}
use Rattle.mau_match.proofs.sums.+times.Given as goal

abbrev pub decreases-times_of : goal.decreases-times_of
decreases-times_of l = size (tree_of l.pattern.now)

abbrev pub decreases-times_in : goal.decreases-times_in
decreases-times_in l = sizes_of l.patterns.now
