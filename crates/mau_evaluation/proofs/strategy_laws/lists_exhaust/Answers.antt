use Rattle.mau_evaluation.proofs.Lists.{lists_exhaust}
use Rattle.mau_evaluation.proofs.strategy_laws.lists_exhaust.Goals as goal

pub returns : goal.returns
returns c = lists_exhaust
