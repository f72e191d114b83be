use Rattle.mau_store.proofs.Numbers.{one_number_where_one_tree}
use Rattle.mau_store.proofs.laws.one_number_where_one_tree.Goals as goal

pub returns : goal.returns
returns c = one_number_where_one_tree
