use Rattle.mau_strat.proofs.FormsApart.{one_number_where_one_strategy}
use Rattle.mau_strat.proofs.laws.one_number_where_one_strategy.Goals as goal

pub returns : goal.returns
returns c = one_number_where_one_strategy
