use Rattle.mau_store.proofs.Numbers.{tied_where_one_number}
use Rattle.mau_store.proofs.laws.tied_where_one_number.Goals as goal

pub returns : goal.returns
returns c = tied_where_one_number
