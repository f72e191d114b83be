use Rattle.mau_evaluation.proofs.Irreducible.{values_are_irreducible}
use Rattle.mau_evaluation.proofs.laws.values_are_irreducible.Goals as goal

pub returns : goal.returns
returns c = values_are_irreducible
