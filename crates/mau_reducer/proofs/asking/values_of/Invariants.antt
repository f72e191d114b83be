use Rattle.std.proofs.Common.{◌≡◌, take}
use Rattle.mau_reducer.proofs.asking.values_of.Given as goal

abbrev pub invariant-loop-pair : goal.invariant-loop-pair
invariant-loop-pair l = l.values ≡ take l.pair-index l.bound
