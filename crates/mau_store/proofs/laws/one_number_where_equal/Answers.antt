use Rattle.mau_store.proofs.Norms.{one_number_where_equal}
use Rattle.mau_store.proofs.laws.one_number_where_equal.Goals as goal

pub returns : goal.returns
returns c = one_number_where_equal
