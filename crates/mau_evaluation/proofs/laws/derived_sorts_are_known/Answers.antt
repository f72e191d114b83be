use Rattle.mau_evaluation.proofs.Known.{derived_sorts_are_known}
use Rattle.mau_evaluation.proofs.laws.derived_sorts_are_known.Goals as goal

pub returns : goal.returns
returns c = derived_sorts_are_known
