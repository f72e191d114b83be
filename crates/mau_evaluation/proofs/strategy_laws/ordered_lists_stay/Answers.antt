use Rattle.mau_evaluation.proofs.Longer.{ordered_lists_stay}
use Rattle.mau_evaluation.proofs.strategy_laws.ordered_lists_stay.Goals as goal

pub returns : goal.returns
returns c = ordered_lists_stay
