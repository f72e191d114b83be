use Rattle.mau_evaluation.proofs.Meet.{runs_meet}
use Rattle.mau_evaluation.proofs.strategy_laws.runs_meet.Goals as goal

pub returns : goal.returns
returns c = runs_meet
