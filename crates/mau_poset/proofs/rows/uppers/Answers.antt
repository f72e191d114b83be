use Rattle.std.proofs.Common.{get_or, arith}
use Rattle.std.proofs.lemmas.Grind.{elements}
use Rattle.std.proofs.lemmas.List.Elements.{Contains-get_or}
use Rattle.mau_poset.proofs.Lists.{AreUppers-set}
use Rattle.mau_poset.proofs.rows.uppers.Goals as goal

pub loop-a-preserved : goal.loop-a-preserved
loop-a-preserved c =
    let pairs = c.args.pairs.now in
    let p = get_or pairs c.loop-a.a-index (0, 0) in
    let within = c.requires c.loop-a.a-index (0, 0) c.loop-a-test.true in
    let leads = Contains-get_or pairs c.loop-a.a-index (0, 0) c.loop-a-test.true in
    (c.loop-a.invariant.0, grind (arith, elements), AreUppers-set pairs _ p.0 p.1 c.index_mut.result.now _ (omega arith) c.index_mut.ensures.value c.in_ok-push.ensures.items leads c.loop-a.invariant.2)
