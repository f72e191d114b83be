use Rattle.std.proofs.Common.{◌≡◌, take, map}
use Rattle.mau_stratforms.specs.Meanings.{assign_of}
use Rattle.mau_stratforms.proofs.same.same_assigns.Given as goal

abbrev pub invariant-loop-i : goal.invariant-loop-i
invariant-loop-i l = map assign_of (take l.i l.a) ≡ map assign_of (take l.i l.b)
