use Rattle.mau_evaluation.proofs.Meet.{ended_runs_are_whole}
use Rattle.mau_evaluation.proofs.strategy_laws.ended_runs_are_whole.Goals as goal

pub returns : goal.returns
returns c = ended_runs_are_whole
