use Rattle.mau_terms.specs.View.{tree_of}
use Rattle.mau_terms.proofs.Sizes.{size, sizes_of}
use Rattle.mau_match.proofs.may_match.+left.Given as goal

abbrev pub decreases-left_beside : goal.decreases-left_beside
decreases-left_beside l = size (tree_of l.pattern.now)

abbrev pub decreases-left_beside_all : goal.decreases-left_beside_all
decreases-left_beside_all l = sizes_of l.patterns.now
