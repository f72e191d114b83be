use Rattle.mau_terms.proofs.Wholes.{over_list_is_equal}
use Rattle.mau_terms.proofs.laws.over_list_is_equal.Goals as goal

pub returns : goal.returns
returns c = over_list_is_equal
