use Rattle.std.proofs.Common.{◌≡◌, length, arith}
use Rattle.mau_poset.proofs.LabelLemmas.{AreLabels-own}
use Rattle.mau_poset.proofs.kinds.number_kinds.Goals as goal

pub number-count-requires-clause-joined : goal.number-count-requires-clause-joined
number-count-requires-clause-joined c =
    let labels = c.in_ok-labels.labels in
    let len : length labels.items ≡ c.args.n = omega (arith, labels.ok.0, c.in_ok-labels.ensures.len) in
    rw c.deref_mut.ensures.value (AreLabels-own _ _ _ len c.in_ok-labels.ensures.own)
