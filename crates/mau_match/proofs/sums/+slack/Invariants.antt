use Rattle.mau_terms.specs.View.{tree_of}
use Rattle.mau_terms.proofs.Sizes.{size, sizes_of}
use Rattle.mau_match.proofs.sums.+slack.Given as goal

abbrev pub decreases-most_apart : goal.decreases-most_apart
decreases-most_apart l = size (tree_of l.pattern.now)

abbrev pub decreases-all_most_apart : goal.decreases-all_most_apart
decreases-all_most_apart l = sizes_of l.patterns.now
