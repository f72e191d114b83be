use Rattle.mau_settling.proofs.Entries.{values_are_tested}
use Rattle.mau_settling.proofs.laws.values_are_tested.Goals as goal

pub returns : goal.returns
returns c = values_are_tested
