use Rattle.std.proofs.Common.{◌≡◌, ◌≤◌, ◌-◌, length, drop}
use Rattle.mau_modtext.proofs.statements.label_given.Given as goal
use Rattle.mau_modtext.specs.Statements.{label_given as given}

abbrev pub invariant-loop-from : goal.invariant-loop-from
invariant-loop-from l = record {
  within : l.from ≤ length l.words;
  rest : given l.words ≡ given (drop l.from l.words);
}

abbrev pub decreases-loop-from : goal.decreases-loop-from
decreases-loop-from l = length l.words - l.from
