use Rattle.mau_lists.proofs.Runs.{runs_go_on_behind_parts as law}
use Rattle.mau_lists.proofs.laws.runs_go_on_behind_parts.Goals as goal

pub returns : goal.returns
returns c = law
