use Rattle.mau_api.proofs.ToldRuns.{runs_go_on}
use Rattle.mau_api.proofs.laws.runs_go_on.Goals as goal

pub returns : goal.returns
returns c = runs_go_on
