use Rattle.std.proofs.Common.{◌≡◌, ◌≤◌, drop}
use Rattle.mau_modtext.specs.Brackets.{closing_from}
use Rattle.mau_modtext.proofs.Outside.{shifted}
use Rattle.mau_strattext.proofs.brackets.closing.Given as goal

abbrev pub invariant-loop-i : goal.invariant-loop-i
invariant-loop-i l = record {
  rest : closing_from 0 l.words ≡ shifted l.i (closing_from l.depth (drop l.i l.words));
  small : l.depth ≤ l.i;
}
