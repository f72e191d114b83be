use Rattle.mau_evaluation.proofs.Meet.{branches_are_decided}
use Rattle.mau_evaluation.proofs.strategy_laws.branches_are_decided.Goals as goal

pub returns : goal.returns
returns c = branches_are_decided
