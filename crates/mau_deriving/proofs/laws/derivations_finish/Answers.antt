use Rattle.mau_deriving.proofs.StepByStep.{finished}
use Rattle.mau_deriving.proofs.laws.derivations_finish.Goals as goal

pub returns : goal.returns
returns c = finished
