use Rattle.std.proofs.Common.{◌≡◌, take}
use Rattle.mau_cond.proofs.run.CondRun.start.Given as goal

abbrev pub invariant-loop-pair : goal.invariant-loop-pair
invariant-loop-pair l = l.values ≡ take l.pair-index l.bound
