use Rattle.std.proofs.Common.{◌≡◌, ◌≤◌, drop}
use Rattle.mau_modtext.specs.Brackets.{begins, first_from}
use Rattle.mau_modtext.proofs.Outside.{shifted}
use Rattle.mau_strattext.proofs.brackets.first_outside.Given as goal

abbrev pub invariant-loop-i : goal.invariant-loop-i
invariant-loop-i l = record {
  rest : first_from 0 (begins l.sign) l.words ≡ shifted l.i (first_from l.depth (begins l.sign) (drop l.i l.words));
  small : l.depth ≤ l.i;
}
