use Rattle.std.proofs.Common.{sym, arith}
use Rattle.mau_poset.proofs.Orders.{kind_of-kind}
use Rattle.mau_grammar.proofs.sorts.kind_at.Goals as goal

pub returns-else-sort-sorts : goal.returns-else-sort-sorts
returns-else-sort-sorts c = sym (kind_of-kind _ _ (omega (arith, c.if-sort-sorts.false, c.sorts.ensures.value)))
