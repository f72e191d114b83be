use Rattle.std.proofs.Common.{rules}
use Rattle.std.proofs.lemmas.List.Elements.{Contains-get_or}
use Rattle.mau_poset.proofs.LabelLemmas.{Sank-more, HaveOneLabel-more, HaveOneLabel-all}
use Rattle.mau_poset.proofs.kinds.join_all.Goals as goal
use Rattle.mau_poset.proofs.kinds.join_all.Goals.{then-join, else-join}

pub loop-a-preserved : goal.loop-a-preserved
loop-a-preserved c =
    let leads = Contains-get_or c.args.pairs.now c.loop-a.a-index (0, 0) c.loop-a-test.true in
    let sank = Sank-more c.loop-a.changed _ _ _ _ c.loop-a.invariant.2 c.join.ensures.sank in (
      c.join.ensures.low,
      λ before. c.join.ensures.joined c.args.pairs.now leads (c.loop-a.invariant.1 before),
      elim c.if-join.branch [
        | then-join w ↦ rw w.changed-is (rw w.if-join.true at sank)
        | else-join w ↦ rw w.changed-is (rw w.if-join.false at sank)
      ],
      elim c.if-join.branch [
        | then-join w ↦ rw w.changed-is (search rules)
        | else-join w ↦ rw w.changed-is (HaveOneLabel-more _ _ _ _ _ c.loop-a-test.true c.loop-a.invariant.3 (rw w.if-join.false at c.join.ensures.sank) (rw w.if-join.false at c.join.ensures.same))
      ],
    )

pub returns-clause-same : goal.returns-clause-same
returns-clause-same c = HaveOneLabel-all _ _ _ _ c.loop-a-test.false c.loop-a.invariant.3
