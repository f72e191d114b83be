use Rattle.mau_poset.proofs.Orders.{one_kind}
use Rattle.mau_poset.proofs.laws.sorts_have_one_kind.Goals as goal

pub returns : goal.returns
returns c = one_kind
