use Rattle.std.proofs.Common.{◌≡◌}
use Rattle.mau_rules.proofs.ByTop.{numbers_before}
use Rattle.mau_rules.proofs.by_top.numbers_under.Given as goal

abbrev pub invariant-loop-number : goal.invariant-loop-number
invariant-loop-number l = l.kept.items ≡ numbers_before l.program l.top l.number
