use Rattle.std.proofs.Common.{List, take}
use Rattle.mau_logic.specs.Says.{Says}
use Rattle.mau_logic.specs.Shown.{known_by}
use Rattle.mau_check.specs.Told.{IsPlainTable, IsToldBy}
use Rattle.mau_check.proofs.Tells.{AreSorted}
use Rattle.mau_check.proofs.sorts.all_sorted.Given as goal

abbrev pub invariant-loop-i : goal.invariant-loop-i
invariant-loop-i l = record {
  plain : IsPlainTable l.sig l.store l.plain;
  sorted : (us : List Says) → IsToldBy l.sig (known_by l.sig us) l.store l.told → AreSorted l.sig l.store us (take l.i l.variables) (take l.i l.values);
}
