use Rattle.std.proofs.Common.{◌≡◌, ◌<◌, length, All}
use Rattle.mau_poset.proofs.rows.finishing_order.Given as goal

abbrev pub invariant-loop-root : goal.invariant-loop-root
invariant-loop-root l = (length l.seen.items ≡ length l.lists) × All (λ a. a < length l.lists) l.order.items
