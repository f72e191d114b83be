use Rattle.mau_terms.specs.View.{tree_of}
use Rattle.mau_terms.proofs.Sizes.{size, sizes_of}
use Rattle.mau_statement.proofs.binding.+other.Given as goal

abbrev pub decreases-first_other : goal.decreases-first_other
decreases-first_other l = size (tree_of l.term.now)

abbrev pub decreases-first_other_in : goal.decreases-first_other_in
decreases-first_other_in l = sizes_of l.terms.now
