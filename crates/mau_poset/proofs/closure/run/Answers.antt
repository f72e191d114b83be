use Rattle.std.proofs.Common.{rules}
use Rattle.std.proofs.lemmas.List.Elements.{Contains-get_or}
use Rattle.mau_poset.proofs.Bits.{Grew-more}
use Rattle.mau_poset.proofs.Closures.{IsClosedUnder-more, IsClosedUnder-all}
use Rattle.mau_poset.proofs.closure.run.Goals as goal
use Rattle.mau_poset.proofs.closure.run.Goals.{then-add, else-add}

pub loop-a-preserved : goal.loop-a-preserved
loop-a-preserved c =
    let leads = Contains-get_or c.args.pairs.now c.loop-a.a-index (0, 0) c.loop-a-test.true in
    let grew = Grew-more c.loop-a.changed _ _ _ _ c.loop-a.invariant.1 c.add.ensures.grew in (
      λ before. c.add.ensures.sound c.args.pairs.now leads (c.loop-a.invariant.0 before),
      elim c.if-add.branch [
        | then-add w ↦ rw w.changed-is (rw w.if-add.true at grew)
        | else-add w ↦ rw w.changed-is (rw w.if-add.false at grew)
      ],
      elim c.if-add.branch [
        | then-add w ↦ rw w.changed-is (search rules)
        | else-add w ↦ rw w.changed-is (IsClosedUnder-more _ _ _ _ _ _ c.loop-a-test.true c.loop-a.invariant.2 (rw w.if-add.false at c.add.ensures.grew) (rw w.if-add.false at c.add.ensures.closed))
      ],
    )

pub returns-clause-closed : goal.returns-clause-closed
returns-clause-closed c = IsClosedUnder-all _ _ _ _ _ c.loop-a-test.false c.loop-a.invariant.2
