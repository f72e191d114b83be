use Rattle.mau_poset.proofs.Orders.{reflexive}
use Rattle.mau_poset.proofs.laws.order_is_reflexive.Goals as goal

pub returns : goal.returns
returns c = reflexive
