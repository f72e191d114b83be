use Rattle.mau_store.specs.Node.{Extends}
use Rattle.mau_listing_tests.proofs.asking.numbers.Given as goal

abbrev pub invariant-loop-text : goal.invariant-loop-text
invariant-loop-text g l = Extends l.fn.store l.store
