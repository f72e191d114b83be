use Rattle.mau_deriving.proofs.Below.{settling_is_known}
use Rattle.mau_deriving.proofs.laws.settling_is_known.Goals as goal

pub returns : goal.returns
returns c = settling_is_known
