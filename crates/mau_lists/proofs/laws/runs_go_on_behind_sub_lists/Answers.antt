use Rattle.mau_lists.proofs.Runs.{runs_go_on_behind_sub_lists as law}
use Rattle.mau_lists.proofs.laws.runs_go_on_behind_sub_lists.Goals as goal

pub returns : goal.returns
returns c = law
