use Rattle.mau_terms.specs.View.{tree_of}
use Rattle.mau_terms.proofs.Sizes.{size, sizes_of}
use Rattle.mau_match.proofs.may_match.+most.Given as goal

abbrev pub decreases-most_beside : goal.decreases-most_beside
decreases-most_beside l = size (tree_of l.pattern.now)

abbrev pub decreases-most_beside_all : goal.decreases-most_beside_all
decreases-most_beside_all l = sizes_of l.patterns.now
