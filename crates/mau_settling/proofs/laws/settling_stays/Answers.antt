use Rattle.mau_settling.proofs.States.{settling_stays}
use Rattle.mau_settling.proofs.laws.settling_stays.Goals as goal

pub returns : goal.returns
returns c = settling_stays
