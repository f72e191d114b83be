use Rattle.mau_settling.proofs.Due.{due_stays}
use Rattle.mau_settling.proofs.laws.due_stays.Goals as goal

pub returns : goal.returns
returns c = due_stays
