use Rattle.std.proofs.Common.{◌≡◌}
use Rattle.mau_prove.proofs.rounds.fill_same.Given as goal

abbrev pub invariant-loop-i : goal.invariant-loop-i
invariant-loop-i l = l.making.lines ≡ l.fn.making.lines
