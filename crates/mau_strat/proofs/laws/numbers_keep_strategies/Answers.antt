use Rattle.mau_strat.proofs.FormsApart.{numbers_keep_strategies}
use Rattle.mau_strat.proofs.laws.numbers_keep_strategies.Goals as goal

pub returns : goal.returns
returns c = numbers_keep_strategies
