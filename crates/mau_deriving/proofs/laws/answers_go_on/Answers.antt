use Rattle.mau_deriving.proofs.StepByStep.{told}
use Rattle.mau_deriving.proofs.laws.answers_go_on.Goals as goal

pub returns : goal.returns
returns c = told
