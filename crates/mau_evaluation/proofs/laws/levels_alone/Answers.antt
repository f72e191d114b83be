use Rattle.mau_evaluation.proofs.Limits.{levels_alone}
use Rattle.mau_evaluation.proofs.laws.levels_alone.Goals as goal

pub returns : goal.returns
returns c = levels_alone
