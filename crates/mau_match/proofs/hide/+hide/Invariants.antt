use Rattle.mau_terms.specs.View.{tree_of}
use Rattle.mau_terms.proofs.Sizes.{size, sizes_of}
use Rattle.mau_match.proofs.hide.+hide.Given as goal

abbrev pub decreases-hide : goal.decreases-hide
decreases-hide l = size (tree_of l.pattern.now)

abbrev pub decreases-hide_all : goal.decreases-hide_all
decreases-hide_all l = sizes_of l.patterns.now
