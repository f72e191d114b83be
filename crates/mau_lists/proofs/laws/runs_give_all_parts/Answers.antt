use Rattle.mau_lists.proofs.Runs.{runs_give_all_parts as law}
use Rattle.mau_lists.proofs.laws.runs_give_all_parts.Goals as goal

pub returns : goal.returns
returns c = law
