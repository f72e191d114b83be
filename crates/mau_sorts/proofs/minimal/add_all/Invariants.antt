use Rattle.std.proofs.Common.{take}
use Rattle.mau_sorts.proofs.MinimalSorts.{AreAdded}
use Rattle.mau_sorts.proofs.minimal.add_all.Given as goal

abbrev pub invariant-loop-sort : goal.invariant-loop-sort
invariant-loop-sort l = AreAdded l.poset l.initial.minimal.items (take l.sort-index l.more) l.minimal.items
