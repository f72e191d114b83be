use Rattle.std.proofs.Common.{◌<◌, ◌≤◌, length, get_or, arith}
use Rattle.mau_poset.proofs.Chains.{Chain-trans}
use Rattle.mau_poset.proofs.LabelLemmas.{AreLabels-set, AreLow-set, sum-lowered}
use Rattle.mau_poset.proofs.kinds.shorten.Goals as goal

pub loop-a-preserved : goal.loop-a-preserved
loop-a-preserved c =
    let labels = c.loop-a.labels in
    let a = c.loop-a.a in
    let a_in : a < length labels = omega arith in
    let low : get_or labels a 0 ≤ a = c.loop-a.invariant.0 a a_in in
    let up_in : get_or labels a 0 < length labels = omega arith in
    let lower : get_or labels (get_or labels a 0) 0 ≤ get_or labels a 0 = c.loop-a.invariant.0 _ up_in in (
      AreLow-set labels a _ (omega arith) c.loop-a.invariant.0,
      λ pairs before. let are = c.loop-a.invariant.1 pairs before in AreLabels-set pairs labels a _ (Chain-trans (are a a_in) (are _ up_in)) are,
      omega (arith, sum-lowered labels a _ a_in lower),
    )
