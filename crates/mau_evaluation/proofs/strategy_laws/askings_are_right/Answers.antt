use Rattle.mau_evaluation.proofs.After.{askings_are_right}
use Rattle.mau_evaluation.proofs.strategy_laws.askings_are_right.Goals as goal

pub returns : goal.returns
returns c = askings_are_right
