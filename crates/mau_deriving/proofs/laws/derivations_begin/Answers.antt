use Rattle.mau_deriving.proofs.StepByStep.{begun}
use Rattle.mau_deriving.proofs.laws.derivations_begin.Goals as goal

pub returns : goal.returns
returns c = begun
