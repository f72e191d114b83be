use Rattle.mau_deriving.proofs.StepByStep.{asked_ends}
use Rattle.mau_deriving.proofs.laws.conditions_end_sorts.Goals as goal

pub returns : goal.returns
returns c = asked_ends
