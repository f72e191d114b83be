use Rattle.mau_api.proofs.KnownSorts.{values_are_known}
use Rattle.mau_api.proofs.laws.values_are_known.Goals as goal

pub returns : goal.returns
returns c = values_are_known
