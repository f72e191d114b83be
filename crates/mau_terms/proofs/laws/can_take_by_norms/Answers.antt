use Rattle.mau_terms.proofs.Taken.{can_take_by_norms}
use Rattle.mau_terms.proofs.laws.can_take_by_norms.Goals as goal

pub returns : goal.returns
returns c = can_take_by_norms
