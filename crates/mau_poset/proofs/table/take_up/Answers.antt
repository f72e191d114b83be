use Rattle.std.proofs.Common.{arith}
use Rattle.mau_poset.proofs.Bits.{TakesUp-more, Grew-more}
use Rattle.mau_poset.proofs.table.take_up.Goals as goal
use Rattle.mau_poset.proofs.table.take_up.Goals.{then-raise, else-raise}

pub loop-k-preserved : goal.loop-k-preserved
loop-k-preserved c =
    let before = Grew-more c.loop-k.changed _ _ _ _ c.loop-k.invariant.1 c.raise.ensures.grew in (
      rw c.raise.ensures.word (TakesUp-more _ _ _ _ _ _ c.loop-k-test.true (omega arith) c.loop-k.invariant.0),
      elim c.if-raise.branch [
        | then-raise w ↦ rw w.changed-is (rw w.if-raise.true at before)
        | else-raise w ↦ rw w.changed-is (rw w.if-raise.false at before)
      ],
    )
