use Rattle.std.proofs.Common.{◌≡◌, map, take}
use Rattle.mau_leaves.specs.Given.{pair_by}
use Rattle.mau_leaves.proofs.given.pairs_of.Given as goal

abbrev pub invariant-loop-bound : goal.invariant-loop-bound
invariant-loop-bound l = l.pairs.items ≡ map pair_by (take l.bound-index l.values)
