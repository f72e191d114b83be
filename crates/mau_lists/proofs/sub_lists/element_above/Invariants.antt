use Rattle.std.proofs.Common.{◌≡◌, drop}
use Rattle.mau_lists.specs.Terms.{by_tree}
use Rattle.mau_lists.specs.Following.{first_above}
use Rattle.mau_lists.proofs.sub_lists.element_above.Given as goal

abbrev pub invariant-loop-y : goal.invariant-loop-y
invariant-loop-y l = first_above (by_tree l.store) l.x l.items ≡ first_above (by_tree l.store) l.x (drop l.y-index l.items)
