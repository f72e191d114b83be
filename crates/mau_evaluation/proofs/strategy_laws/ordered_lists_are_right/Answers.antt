use Rattle.mau_evaluation.proofs.Right.{ordered_lists_are_right}
use Rattle.mau_evaluation.proofs.strategy_laws.ordered_lists_are_right.Goals as goal

pub returns : goal.returns
returns c = ordered_lists_are_right
