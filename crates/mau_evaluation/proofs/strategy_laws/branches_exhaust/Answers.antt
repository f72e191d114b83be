use Rattle.mau_evaluation.proofs.Inside.{branches_exhaust}
use Rattle.mau_evaluation.proofs.strategy_laws.branches_exhaust.Goals as goal

pub returns : goal.returns
returns c = branches_exhaust
