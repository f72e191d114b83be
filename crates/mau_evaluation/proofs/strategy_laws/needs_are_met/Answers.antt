use Rattle.mau_evaluation.proofs.Needed.{needs_are_met}
use Rattle.mau_evaluation.proofs.strategy_laws.needs_are_met.Goals as goal

pub returns : goal.returns
returns c = needs_are_met
