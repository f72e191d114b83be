use Rattle.mau_poset.proofs.Orders.{transitive}
use Rattle.mau_poset.proofs.laws.order_is_transitive.Goals as goal

pub returns : goal.returns
returns c = transitive
