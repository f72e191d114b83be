use Rattle.mau_evaluation.proofs.Longer.{fronts_stay}
use Rattle.mau_evaluation.proofs.strategy_laws.fronts_stay.Goals as goal

pub returns : goal.returns
returns c = fronts_stay
