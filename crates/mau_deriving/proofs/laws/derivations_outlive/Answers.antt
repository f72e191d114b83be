use Rattle.mau_deriving.proofs.Outlived.{derivations_outlive}
use Rattle.mau_deriving.proofs.laws.derivations_outlive.Goals as goal

pub returns : goal.returns
returns c = derivations_outlive
