use Rattle.std.proofs.Common.{take}
use Rattle.mau_print.specs.FirstSorts.{AreFirstNames}
use Rattle.mau_print.proofs.sorts.first_names.Given as goal

abbrev pub invariant-loop-sort : goal.invariant-loop-sort
invariant-loop-sort l = AreFirstNames (take l.sort-index l.sorts) l.first l.kinds l.firsts.items
