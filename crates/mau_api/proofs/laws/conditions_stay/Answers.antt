use Rattle.mau_api.proofs.ToldRuns.{conditions_stay}
use Rattle.mau_api.proofs.laws.conditions_stay.Goals as goal

pub returns : goal.returns
returns c = conditions_stay
