use Rattle.mau_settling.proofs.Ended.{due_end_sorts}
use Rattle.mau_settling.proofs.laws.due_end_sorts.Goals as goal

pub returns : goal.returns
returns c = due_end_sorts
