use Rattle.std.proofs.Common.{take}
use Rattle.mau_sorts.specs.SortSets.{AreNotAbove}
use Rattle.mau_sorts.proofs.minimal.not_above.Given as goal

abbrev pub invariant-loop-lower : goal.invariant-loop-lower
invariant-loop-lower l = AreNotAbove l.poset l.sort (take l.lower-index l.minimal) l.kept.items
