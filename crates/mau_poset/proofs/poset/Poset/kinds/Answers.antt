use Rattle.std.proofs.Common.{arith}
use Rattle.mau_poset.proofs.Orders.{kinds_before-le}
use Rattle.mau_poset.proofs.poset.Poset.kinds.Goals as goal

pub returns-clause-limit : goal.returns-clause-limit
returns-clause-limit c = rw (← c.self.view_is) (omega (arith, c.self.invariant.counted, kinds_before-le c.self.inside.pairs.items c.self.inside.sorts))
