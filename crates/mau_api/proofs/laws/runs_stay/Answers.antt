use Rattle.mau_api.proofs.ToldRuns.{runs_stay}
use Rattle.mau_api.proofs.laws.runs_stay.Goals as goal

pub returns : goal.returns
returns c = runs_stay
