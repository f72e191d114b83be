use Rattle.std.proofs.Common.{take}
use Rattle.mau_resting.specs.Rests.{AreKnownBy}
use Rattle.mau_resting.proofs.levels.most.Given as goal

abbrev pub invariant-loop-i : goal.invariant-loop-i
invariant-loop-i l = AreKnownBy l.levels l.most (take l.i l.terms)
