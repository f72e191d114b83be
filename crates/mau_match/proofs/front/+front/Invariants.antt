use Rattle.mau_terms.specs.View.{tree_of}
use Rattle.mau_terms.proofs.Sizes.{size, sizes_of}
use Rattle.mau_match.proofs.front.+front.Given as goal

abbrev pub decreases-with_front : goal.decreases-with_front
decreases-with_front l = size (tree_of l.pattern.now)

abbrev pub decreases-push_with_front : goal.decreases-push_with_front
decreases-push_with_front l = sizes_of l.patterns.now
