use Rattle.std.proofs.Common.{sym, arith}
use Rattle.mau_poset.proofs.Orders.{kind_of-kind}
use Rattle.mau_poset.proofs.Readers.{kind_of-read, kind_of-range, kind_of-small}
use Rattle.mau_poset.proofs.poset.Poset.kind_of.Goals as goal

pub overflow_add-result : goal.overflow_add-result
overflow_add-result c =
    omega (arith, kind_of-read _ _ _ _ _ _ c.self.invariant c.if-a-self.true c.index.ensures, kind_of-small _ _ _ _ _ c.self.invariant c.if-a-self.true)

pub returns-then-a-self-clause-value : goal.returns-then-a-self-clause-value
returns-then-a-self-clause-value c = rw (← c.self.view_is) (kind_of-read _ _ _ _ _ _ c.self.invariant c.if-a-self.true c.index.ensures)

pub returns-else-a-self-clause-value : goal.returns-else-a-self-clause-value
returns-else-a-self-clause-value c = rw (← c.self.view_is) (sym (kind_of-kind _ _ c.if-a-self.false))

pub returns-then-a-self-clause-kind : goal.returns-then-a-self-clause-kind
returns-then-a-self-clause-kind c =
    rw (← c.self.view_is) (kind_of-range _ _ _ _ _ _ c.self.invariant c.if-a-self.true c.index.ensures)
