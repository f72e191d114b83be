use Rattle.std.proofs.Common.{◌≡◌, ◌<◌, length, All}
use Rattle.mau_poset.proofs.rows.finish.Given as goal

abbrev pub invariant-loop : goal.invariant-loop
invariant-loop l = (length l.seen ≡ length l.lists)
    × All (λ a. a < length l.lists) l.order.items
    × All (λ e. e.0 < length l.lists) l.stack.items
