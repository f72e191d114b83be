use Rattle.std.proofs.Common.{◌≡◌, ◌≤◌, ◌<◌, ℕ, true}
use Rattle.mau_rules.specs.Walk.{is_frozen_at}
use Rattle.mau_rules.proofs.frames.next_argument.Given as goal

abbrev pub invariant-loop-place : goal.invariant-loop-place
invariant-loop-place l = (i : ℕ) → l.fn.at.next ≤ i → i < l.place → is_frozen_at l.sig l.op.0 i ≡ true
