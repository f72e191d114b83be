use Rattle.mau_stratforms.proofs.Leaves.{tables_tell_apart}
use Rattle.mau_stratforms.proofs.laws.tables_tell_apart.Goals as goal

pub returns : goal.returns
returns c = tables_tell_apart
