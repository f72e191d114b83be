use Rattle.std.proofs.Common.{map}
use Rattle.mau_rules.proofs.ByTop.{AreFirst}
use Rattle.mau_rules.proofs.by_top.all_numbers.Given as goal

abbrev pub invariant-loop-top : goal.invariant-loop-top
invariant-loop-top l = AreFirst l.program l.top (map (λ list. list.items) l.orders.items)
