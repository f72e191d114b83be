use Rattle.mau_evaluation.proofs.RunLimits.{levels_alone_in_runs}
use Rattle.mau_evaluation.proofs.strategy_laws.levels_alone_in_runs.Goals as goal

pub returns : goal.returns
returns c = levels_alone_in_runs
