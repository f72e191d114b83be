use Rattle.std.proofs.Common.{◌≡◌, ℕ, ◌<◌, true}
use Rattle.mau_evaluation.specs.Evaluation.{has_number}
use Rattle.mau_reduce.proofs.rebuilding.names_all.Given as goal

abbrev pub invariant-loop-place : goal.invariant-loop-place
invariant-loop-place l = (k : ℕ) → k < l.place-counter → has_number l.order k ≡ true
