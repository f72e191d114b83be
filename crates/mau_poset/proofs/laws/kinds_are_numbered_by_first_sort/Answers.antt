use Rattle.mau_poset.proofs.Orders.{numbers_kinds}
use Rattle.mau_poset.proofs.laws.kinds_are_numbered_by_first_sort.Goals as goal

pub returns : goal.returns
returns c = numbers_kinds
