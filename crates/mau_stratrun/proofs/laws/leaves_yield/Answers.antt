use Rattle.mau_stratrun.proofs.Yielding.{leaves_yield}
use Rattle.mau_stratrun.proofs.laws.leaves_yield.Goals as goal

pub returns : goal.returns
returns c = leaves_yield
