use Rattle.mau_evaluation.proofs.Inside.{ended_lists_exhaust}
use Rattle.mau_evaluation.proofs.strategy_laws.ended_lists_exhaust.Goals as goal

pub returns : goal.returns
returns c = ended_lists_exhaust
