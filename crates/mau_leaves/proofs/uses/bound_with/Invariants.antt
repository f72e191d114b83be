use Rattle.std.proofs.Common.{◌≡◌, take}
use Rattle.mau_leaves.proofs.uses.bound_with.Given as goal

abbrev pub invariant-loop-pair : goal.invariant-loop-pair
invariant-loop-pair l = l.all ≡ take l.pair-index l.bound
