use Rattle.std.proofs.Common.{◌≡◌, ◌<◌, ℕ, get_or}
use Rattle.mau_check.specs.declared.kept.Kept.{Kept}
use Rattle.mau_check.proofs.over.are_of_kind.Given as goal

abbrev pub invariant-loop-arg : goal.invariant-loop-arg
invariant-loop-arg l = (k : ℕ) (d : Kept) → k < l.arg-index → (get_or l.args k d).kind ≡ l.kind
