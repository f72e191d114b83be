use Rattle.mau_poset.proofs.Least.{one_least}
use Rattle.mau_poset.proofs.laws.least_is_one.Goals as goal

pub returns : goal.returns
returns c = one_least
