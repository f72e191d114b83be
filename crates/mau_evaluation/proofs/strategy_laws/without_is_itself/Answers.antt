use Rattle.mau_evaluation.proofs.Needed.{without_is_itself}
use Rattle.mau_evaluation.proofs.strategy_laws.without_is_itself.Goals as goal

pub returns : goal.returns
returns c = without_is_itself
