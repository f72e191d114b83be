use Rattle.mau_reducer.proofs.Heads.{values_admit_none}
use Rattle.mau_reducer.proofs.laws.values_admit_none.Goals as goal

pub returns : goal.returns
returns c = values_admit_none
