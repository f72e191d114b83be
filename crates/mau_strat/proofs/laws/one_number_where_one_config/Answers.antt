use Rattle.mau_strat.proofs.Apart.{one_number_where_one_config}
use Rattle.mau_strat.proofs.laws.one_number_where_one_config.Goals as goal

pub returns : goal.returns
returns c = one_number_where_one_config
