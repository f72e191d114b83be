use Rattle.mau_terms.specs.View.{tree_of}
use Rattle.mau_terms.proofs.Sizes.{size, sizes_of}
use Rattle.mau_match.proofs.steps.+copies.Given as goal

abbrev pub decreases-push_copies : goal.decreases-push_copies
decreases-push_copies l = sizes_of l.patterns.now

abbrev pub decreases-push_copies_of : goal.decreases-push_copies_of
decreases-push_copies_of l = size (tree_of l.pattern.now)
