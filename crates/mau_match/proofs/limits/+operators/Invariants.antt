use Rattle.mau_terms.specs.View.{tree_of}
use Rattle.mau_terms.proofs.Sizes.{size, sizes_of}
use Rattle.mau_match.proofs.limits.+operators.Given as goal

abbrev pub decreases-push_operators : goal.decreases-push_operators
decreases-push_operators l = size (tree_of l.pattern.now)

abbrev pub decreases-push_all_operators : goal.decreases-push_all_operators
decreases-push_all_operators l = sizes_of l.patterns.now
