use Rattle.mau_poset.proofs.LabelLemmas.{first_sort-settled}
use Rattle.mau_poset.proofs.kinds.settle.Goals as goal

pub returns : goal.returns
returns c =
    first_sort-settled _ _ c.join_all.ensures.low (c.join_all.ensures.joined c.loop-labels.invariant.1) (rw c.loop-labels-test.false at c.join_all.ensures.same)
