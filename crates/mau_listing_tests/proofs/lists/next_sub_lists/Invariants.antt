use Rattle.mau_store.specs.Node.{AreOf}
use Rattle.mau_lists.specs.Terms.{AreSorted}
use Rattle.mau_listing_tests.proofs.lists.next_sub_lists.Given as goal

abbrev pub invariant-loop : goal.invariant-loop
invariant-loop l = record {
  there : AreOf l.store l.lists.items;
  sorted : AreSorted l.store l.lists.items;
}
