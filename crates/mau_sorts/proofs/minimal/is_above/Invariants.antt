use Rattle.std.proofs.Common.{take}
use Rattle.mau_sorts.specs.SortSets.{IsAbove}
use Rattle.mau_sorts.proofs.minimal.is_above.Given as goal

abbrev pub invariant-loop-lower : goal.invariant-loop-lower
invariant-loop-lower l = ¬ IsAbove l.poset (take l.lower-index l.minimal) l.sort
