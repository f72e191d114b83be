use Rattle.std.proofs.Common.{◌∙◌}
use Rattle.mau_poset.proofs.Closures.{room_to_grow, IsClosureOf-closed}
use Rattle.mau_poset.proofs.closure.close.Goals as goal

pub loop-smaller : goal.loop-smaller
loop-smaller c = room_to_grow c.loop.table c.run.new.table c.run.auto.table (λ i. (c.type_inv.table i).fits) (rw c.loop-test.true at c.run.ensures.grew)

pub returns : goal.returns
returns c =
    let room = c.run.auto.table ∙ c.loop.auto.table ∙ c.run_in_order.auto.table ∙ c.requires.room in
    IsClosureOf-closed _ _ _ c.requires.within room (c.run.ensures.sound c.loop.invariant) (rw c.loop-test.false at c.run.ensures.closed)
