use Rattle.mau_evaluation.proofs.OneRun.{entries_are_apart}
use Rattle.mau_evaluation.proofs.strategy_laws.entries_are_apart.Goals as goal

pub returns : goal.returns
returns c = entries_are_apart
