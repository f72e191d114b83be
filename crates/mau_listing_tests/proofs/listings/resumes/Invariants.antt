use Rattle.mau_terms.specs.View.{tree_of}
use Rattle.mau_listing.specs.Asked.{asks, CanGoOn}
use Rattle.mau_listing_tests.proofs.listings.resumes.Given as goal

abbrev pub invariant-loop-k : goal.invariant-loop-k
invariant-loop-k g l = CanGoOn g.L.Lister.with_context l.sig l.store l.sorts (asks (tree_of l.question.pattern) l.question.bound.items l.id) l.last
