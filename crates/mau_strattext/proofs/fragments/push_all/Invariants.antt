use Rattle.std.proofs.Common.{◌≡◌, ◌++◌, take}
use Rattle.mau_strattext.proofs.fragments.push_all.Given as goal

abbrev pub invariant-loop-fragment : goal.invariant-loop-fragment
invariant-loop-fragment l = l.out.items ≡ l.initial.out.items ++ take l.fragment-index l.more
