use Rattle.mau_sorts.proofs.LeastSorts.{each_least}
use Rattle.mau_sorts.proofs.laws.least_sorts.Goals as goal

pub returns : goal.returns
returns c s w t bare = each_least s w t bare
