use Rattle.mau_terms.proofs.Solutions.{identity_has_no_elements}
use Rattle.mau_terms.proofs.laws.identity_has_no_elements.Goals as goal

pub returns : goal.returns
returns c = identity_has_no_elements
