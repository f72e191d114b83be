use Rattle.mau_settling.proofs.States.{deriving_stays}
use Rattle.mau_settling.proofs.laws.deriving_stays.Goals as goal

pub returns : goal.returns
returns c = deriving_stays
