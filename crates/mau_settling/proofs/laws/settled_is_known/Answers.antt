use Rattle.mau_settling.proofs.Ended.{settled_is_known}
use Rattle.mau_settling.proofs.laws.settled_is_known.Goals as goal

pub returns : goal.returns
returns c = settled_is_known
