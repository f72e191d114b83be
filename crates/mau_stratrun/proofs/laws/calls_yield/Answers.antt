use Rattle.mau_stratrun.proofs.Yielding.{calls_yield}
use Rattle.mau_stratrun.proofs.laws.calls_yield.Goals as goal

pub returns : goal.returns
returns c = calls_yield
