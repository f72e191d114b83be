use Rattle.mau_terms.specs.View.{tree_of}
use Rattle.mau_terms.proofs.Sizes.{size, sizes_of}
use Rattle.mau_match.proofs.steps.+own.Given as goal

abbrev pub decreases-are_own : goal.decreases-are_own
decreases-are_own l = sizes_of l.patterns.now

abbrev pub decreases-is_own : goal.decreases-is_own
decreases-is_own l = size (tree_of l.pattern.now)
