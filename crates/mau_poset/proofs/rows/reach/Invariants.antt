use Rattle.std.proofs.Common.{◌≡◌, ◌<◌, length, All}
use Rattle.mau_poset.proofs.rows.reach.Given as goal

abbrev pub invariant-loop-next : goal.invariant-loop-next
invariant-loop-next l = (length l.mark ≡ length l.lists) × All (λ a. a < length l.lists) l.found.items
