use Rattle.std.proofs.Common.{length}
use Rattle.mau_definition.proofs.bound.+are_terms_bound.Given as goal

abbrev pub decreases-are_terms_bound : goal.decreases-are_terms_bound
decreases-are_terms_bound l = length l.terms.now
