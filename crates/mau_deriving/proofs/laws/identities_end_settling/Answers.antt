use Rattle.mau_deriving.proofs.Below.{identities_end_settling}
use Rattle.mau_deriving.proofs.laws.identities_end_settling.Goals as goal

pub returns : goal.returns
returns c = identities_end_settling
