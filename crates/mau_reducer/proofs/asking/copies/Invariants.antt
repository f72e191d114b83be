use Rattle.std.proofs.Common.{◌≡◌, take}
use Rattle.mau_reducer.proofs.asking.copies.Given as goal

abbrev pub invariant-loop-fragment : goal.invariant-loop-fragment
invariant-loop-fragment l = l.copies.items ≡ take l.fragment-index l.cond
