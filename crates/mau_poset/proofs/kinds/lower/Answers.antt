use Rattle.mau_poset.proofs.Chains.{Chain-trans, AreJoined-sym}
use Rattle.mau_poset.proofs.LabelLemmas.{AreLabels-set}
use Rattle.mau_poset.proofs.kinds.lower.Goals as goal

pub returns-then-to-labels-clause-joined : goal.returns-then-to-labels-clause-joined
returns-then-to-labels-clause-joined c = λ pairs joined are.
    let over = Chain-trans (AreJoined-sym pairs (are c.args.at c.requires.at)) joined in
    AreLabels-set pairs _ _ _ over (AreLabels-set pairs _ _ _ joined are)
