use Rattle.mau_deriving.proofs.StepByStep.{advanced}
use Rattle.mau_deriving.proofs.laws.memberships_go_on.Goals as goal

pub returns : goal.returns
returns c = advanced
