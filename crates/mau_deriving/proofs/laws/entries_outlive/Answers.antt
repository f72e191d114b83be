use Rattle.mau_deriving.proofs.Outlived.{entries_outlive}
use Rattle.mau_deriving.proofs.laws.entries_outlive.Goals as goal

pub returns : goal.returns
returns c = entries_outlive
