use Rattle.std.proofs.Common.{◌≡◌, take, map}
use Rattle.mau_api.specs.Programs.{fragment_of}
use Rattle.mau_stratforms.proofs.same.same_condition.Given as goal

abbrev pub invariant-loop-i : goal.invariant-loop-i
invariant-loop-i l = map fragment_of (take l.i l.a) ≡ map fragment_of (take l.i l.b)
