use Rattle.mau_strattext.proofs.OneStrategy.{strategy_once}
use Rattle.mau_strattext.proofs.laws.strategies_are_one.Goals as goal

pub returns : goal.returns
returns c = λ s shaped ns os os' r r' x y. strategy_once s shaped ns os os' r r' x y
