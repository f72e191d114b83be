use Rattle.mau_poset.proofs.Orders.{antisymmetric}
use Rattle.mau_poset.proofs.laws.order_is_antisymmetric.Goals as goal

pub returns : goal.returns
returns c = antisymmetric
