use Rattle.std.proofs.Common.{◌≡◌, length}
use Rattle.mau_docheck.specs.Naming.{AreNamed}
use Rattle.mau_docheck.proofs.naming.name_holes.Given as goal

abbrev pub invariant-loop-i : goal.invariant-loop-i
invariant-loop-i l = record {
  named : AreNamed l.vars l.store l.named l.numbers.items;
  counted : length l.numbers.items ≡ l.i;
}
