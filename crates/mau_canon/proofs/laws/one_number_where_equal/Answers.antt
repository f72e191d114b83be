use Rattle.mau_canon.proofs.Standing.{one_number_where_equal}
use Rattle.mau_canon.proofs.laws.one_number_where_equal.Goals as goal

pub returns : goal.returns
returns c = one_number_where_equal
