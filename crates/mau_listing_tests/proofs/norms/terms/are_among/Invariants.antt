use Rattle.std.proofs.Common.{All, Contains, take}
use Rattle.mau_listing_tests.proofs.norms.terms.are_among.Given as goal

abbrev pub invariant-loop-term : goal.invariant-loop-term
invariant-loop-term l = All (Contains l.ids) (take l.term-index l.terms)
