use Rattle.mau_terms.specs.View.{tree_of}
use Rattle.mau_terms.proofs.Sizes.{size, sizes_of}
use Rattle.mau_reduce.proofs.stepping.+holes.Given as goal

abbrev pub decreases-add_holes : goal.decreases-add_holes
decreases-add_holes l = size (tree_of l.term.now)

abbrev pub decreases-add_all_holes : goal.decreases-add_all_holes
decreases-add_all_holes l = sizes_of l.terms.now
