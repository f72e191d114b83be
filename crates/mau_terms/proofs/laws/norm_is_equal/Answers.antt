use Rattle.mau_terms.proofs.Wholes.{norm_is_equal}
use Rattle.mau_terms.proofs.laws.norm_is_equal.Goals as goal

pub returns : goal.returns
returns c = norm_is_equal
