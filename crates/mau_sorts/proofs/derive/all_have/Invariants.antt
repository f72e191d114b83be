use Rattle.std.proofs.Common.{ℕ, ◌<◌, get_or}
use Rattle.mau_sorts.specs.SortSets.{SortsOf, IsIn}
use Rattle.mau_sorts.specs.Derived.{sets}
use Rattle.mau_sorts.proofs.derive.all_have.Given as goal

abbrev pub invariant-loop-i : goal.invariant-loop-i
invariant-loop-i l = (k : ℕ) (d : SortsOf) → k < l.i → IsIn l.poset (get_or (sets l.args) k d) (get_or l.sorts k 0)
