use Rattle.std.proofs.Common.{◌≡◌, ◌<◌, length, All}
use Rattle.mau_poset.proofs.rows.row_order.Given as goal

abbrev pub invariant-loop-start : goal.invariant-loop-start
invariant-loop-start l = (length l.mark.items ≡ length l.lowers) × All (λ a. a < length l.lowers) l.order.items
