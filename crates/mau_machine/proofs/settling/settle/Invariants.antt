use Rattle.mau_machine.proofs.settling.settle.Given as goal

-- states have come of one another, and the settling stands
abbrev pub invariant-loop : goal.invariant-loop
invariant-loop g l = g.W.World.grows l.fn.world l.fn.store l.world l.store × (g.W.World.words l.world l.store).knows_settling l.fn.term.0 l.settling
