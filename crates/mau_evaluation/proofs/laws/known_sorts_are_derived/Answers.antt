use Rattle.mau_evaluation.proofs.Derived.{known_sorts_are_derived}
use Rattle.mau_evaluation.proofs.laws.known_sorts_are_derived.Goals as goal

pub returns : goal.returns
returns c = known_sorts_are_derived
