use Rattle.std.proofs.Common.{inl, inr}
use Rattle.mau_poset.specs.Order.{step}
use Rattle.mau_poset.proofs.kinds.join.Goals as goal
use Rattle.mau_poset.proofs.kinds.join.Goals.{then-one-other, else-one-other+then-other-one, else-one-other+else-other-one}

pub returns-clause-joined : goal.returns-clause-joined
returns-clause-joined c = λ pairs leads are. elim c.if-one-other.branch [
  | then-one-other w ↦ rw w.labels-is (w.lower.ensures.joined pairs (step (inr leads) (are c.args.a c.requires.a)) are)
  | else-one-other+then-other-one w ↦ rw w.labels-is (w.lower-then-other-one.ensures.joined pairs (step (inl leads) (are c.args.b c.requires.b)) are)
  | else-one-other+else-other-one w ↦ rw w.labels-is are
]
