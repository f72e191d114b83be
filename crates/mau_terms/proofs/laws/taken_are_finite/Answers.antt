use Rattle.mau_terms.proofs.Taken.{taken_are_finite}
use Rattle.mau_terms.proofs.laws.taken_are_finite.Goals as goal

pub returns : goal.returns
returns c = taken_are_finite
