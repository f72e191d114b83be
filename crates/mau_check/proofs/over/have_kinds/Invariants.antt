use Rattle.std.proofs.Common.{◌≡◌, ◌<◌, ℕ, get_or}
use Rattle.mau_poset.specs.Order.{kind_of}
use Rattle.mau_check.specs.declared.kept.Kept.{Kept}
use Rattle.mau_check.proofs.over.have_kinds.Given as goal

abbrev pub invariant-loop-i : goal.invariant-loop-i
invariant-loop-i l = (k : ℕ) (d : Kept) (e : ℕ) → k < l.i → (get_or l.args k d).kind ≡ kind_of l.sig.hierarchy (get_or l.sorts k e)
