use Rattle.mau_terms.specs.View.{tree_of}
use Rattle.mau_terms.proofs.Sizes.{size}
use Rattle.mau_statement.proofs.tops.+normal_top.Given as goal

abbrev pub decreases-normal_top : goal.decreases-normal_top
decreases-normal_top l = size (tree_of l.term.now)
