use Rattle.mau_deriving.proofs.Below.{settled_are_known}
use Rattle.mau_deriving.proofs.laws.settled_are_known.Goals as goal

pub returns : goal.returns
returns c = settled_are_known
