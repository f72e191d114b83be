use Rattle.mau_deriving.proofs.Outlived.{answers_outlive}
use Rattle.mau_deriving.proofs.laws.answers_outlive.Goals as goal

pub returns : goal.returns
returns c = answers_outlive
