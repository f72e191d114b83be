use Rattle.std.proofs.Common.{◌≡◌, ◌<◌, length, All}
use Rattle.mau_poset.proofs.rows.take_marked.Given as goal

abbrev pub invariant-loop-b : goal.invariant-loop-b
invariant-loop-b l = (length l.mark ≡ length l.initial.mark) × All (λ b. b < length l.mark) l.found.items
