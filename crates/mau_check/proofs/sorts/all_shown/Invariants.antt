use Rattle.std.proofs.Common.{List, take}
use Rattle.mau_logic.specs.Says.{Says}
use Rattle.mau_check.specs.Said.{AreSaid}
use Rattle.mau_check.specs.Told.{IsPlainTable}
use Rattle.mau_check.proofs.Tells.{AreSorted}
use Rattle.mau_check.proofs.sorts.all_shown.Given as goal

abbrev pub invariant-loop-i : goal.invariant-loop-i
invariant-loop-i l = record {
  plain : IsPlainTable l.sig l.store l.plain;
  sorted : (us : List Says) → AreSaid l.sig l.store l.uses us → AreSorted l.sig l.store us (take l.i l.variables) (take l.i l.values);
}
