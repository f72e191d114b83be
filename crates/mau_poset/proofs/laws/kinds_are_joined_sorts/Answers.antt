use Rattle.mau_poset.proofs.Orders.{joined_sorts}
use Rattle.mau_poset.proofs.laws.kinds_are_joined_sorts.Goals as goal

pub returns : goal.returns
returns c = joined_sorts
