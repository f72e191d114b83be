use Rattle.mau_store.specs.Node.{AreOf}
use Rattle.mau_lists.specs.Terms.{AreSorted}
use Rattle.mau_lists.specs.Listed.{sub_lists_left}
use Rattle.mau_listing_tests.proofs.lists.count.Given as goal

abbrev pub invariant-loop-count : goal.invariant-loop-count
invariant-loop-count l = record { there : AreOf l.store l.lists.items; sorted : AreSorted l.store l.lists.items }

abbrev pub decreases-loop-count : goal.decreases-loop-count
decreases-loop-count l = sub_lists_left l.store l.lists
