use Rattle.std.proofs.Common.{◌≡◌, take}
use Rattle.mau_cond.proofs.bound.Bound.pairs.Given as goal

abbrev pub invariant-loop-index : goal.invariant-loop-index
invariant-loop-index l = l.pairs.items ≡ take l.index l.self
