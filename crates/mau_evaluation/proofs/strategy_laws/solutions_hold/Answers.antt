use Rattle.mau_evaluation.proofs.Meet.{solutions_hold}
use Rattle.mau_evaluation.proofs.strategy_laws.solutions_hold.Goals as goal

pub returns : goal.returns
returns c = solutions_hold
