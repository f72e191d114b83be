use Rattle.mau_lists.proofs.Multisets.{sorted_where_ascending as law}
use Rattle.mau_lists.proofs.laws.sorted_where_ascending.Goals as goal

pub returns : goal.returns
returns c = law
