use Rattle.mau_evaluation.proofs.OneRun.{reached_is_one}
use Rattle.mau_evaluation.proofs.strategy_laws.reached_is_one.Goals as goal

pub returns : goal.returns
returns c = reached_is_one
