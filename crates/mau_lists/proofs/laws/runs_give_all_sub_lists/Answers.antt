use Rattle.mau_lists.proofs.Runs.{runs_give_all_sub_lists as law}
use Rattle.mau_lists.proofs.laws.runs_give_all_sub_lists.Goals as goal

pub returns : goal.returns
returns c = law
