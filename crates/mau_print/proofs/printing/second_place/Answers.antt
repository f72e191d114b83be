use Rattle.std.proofs.Common.{◌∙◌}
use Rattle.mau_print.proofs.Chains.{second}
use Rattle.mau_print.proofs.printing.second_place.Goals as goal

pub returns-then-seen-eq1-clause-some : goal.returns-then-seen-eq1-clause-some
returns-then-seen-eq1-clause-some c =
    second c.args.parts.now c.loop-i.i c.in-Hole.hole c.loop-i-test.true (rw c.in-Hole.is at c.index-parts-i.is) (c.loop-i.invariant.0 ∙ c.if-seen-eq1.true)
