use Rattle.std.proofs.Common.{◌≡◌, length}
use Rattle.mau_check.specs.Marks.{AreMarks}
use Rattle.mau_check.proofs.filling.mark.Given as goal

abbrev pub invariant-loop-i : goal.invariant-loop-i
invariant-loop-i l = record {
  marks : AreMarks l.store l.marks.items;
  counted : length l.marks.items ≡ l.i;
}
