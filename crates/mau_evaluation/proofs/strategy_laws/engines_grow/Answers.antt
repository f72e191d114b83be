use Rattle.mau_evaluation.proofs.Longer.{engines_grow}
use Rattle.mau_evaluation.proofs.strategy_laws.engines_grow.Goals as goal

pub returns : goal.returns
returns c = engines_grow
