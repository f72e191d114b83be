use Rattle.std.proofs.Common.{◌≡◌, take}
use Rattle.mau_strattext.proofs.strategy.copy_variables.Given as goal

abbrev pub invariant-loop-index : goal.invariant-loop-index
invariant-loop-index l = l.copy ≡ take l.index l.vars
