use Rattle.mau_strat.proofs.Kept.{numbers_keep_configs}
use Rattle.mau_strat.proofs.laws.numbers_keep_configs.Goals as goal

pub returns : goal.returns
returns c = numbers_keep_configs
