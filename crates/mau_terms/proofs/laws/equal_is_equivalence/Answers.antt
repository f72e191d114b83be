use Rattle.mau_terms.proofs.Solutions.{equal_is_equivalence}
use Rattle.mau_terms.proofs.laws.equal_is_equivalence.Goals as goal

pub returns : goal.returns
returns c = equal_is_equivalence
