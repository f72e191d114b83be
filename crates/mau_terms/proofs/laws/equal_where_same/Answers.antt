use Rattle.mau_terms.proofs.Plain.{equal_where_same}
use Rattle.mau_terms.proofs.laws.equal_where_same.Goals as goal

pub returns : goal.returns
returns c = equal_where_same
