use Rattle.mau_deriving.proofs.Outlived.{standing_outlives}
use Rattle.mau_deriving.proofs.laws.standing_outlives.Goals as goal

pub returns : goal.returns
returns c = standing_outlives
