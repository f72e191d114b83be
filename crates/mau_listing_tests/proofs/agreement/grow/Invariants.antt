use Rattle.std.proofs.Common.{Bool, Option}
use Rattle.mau_sorts.specs.Table.{AreOver}
use Rattle.mau_listing.specs.declared.solution.Solution.{Solution}
use Rattle.mau_listing.specs.Asked.{Asked, CanGoOn}
use Rattle.mau_listing_tests.proofs.agreement.grow.Given as goal

abbrev pub invariant-loop-term : goal.invariant-loop-term
invariant-loop-term g l = record {
  over : AreOver l.sig.hierarchy l.sorts;
  kept : (c : Bool) (a : Asked) (o : Option Solution) → CanGoOn c l.sig l.fn.store l.fn.sorts a o → CanGoOn c l.sig l.store l.sorts a o;
}
