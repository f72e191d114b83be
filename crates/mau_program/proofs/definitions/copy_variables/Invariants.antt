use Rattle.std.proofs.Common.{◌≡◌, take}
use Rattle.mau_program.proofs.definitions.copy_variables.Given as goal

abbrev pub invariant-loop-index : goal.invariant-loop-index
invariant-loop-index l = l.copy ≡ take l.index l.vars
