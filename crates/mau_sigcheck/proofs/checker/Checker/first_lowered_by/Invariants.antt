use Rattle.std.proofs.Common.{ℕ, ◌<◌, get_or}
use Rattle.mau_sigcheck.specs.Accepted.{Lowers}
use Rattle.mau_sigcheck.proofs.checker.Checker.first_lowered_by.Given as goal

abbrev pub invariant-loop-x : goal.invariant-loop-x
invariant-loop-x l = (i : ℕ) → i < l.x-index → ¬ Lowers l.self l.op.0 l.identity (get_or l.x-items i 0)
