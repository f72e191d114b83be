use Rattle.mau_api.proofs.Wholes.{wholes_are_kept}
use Rattle.mau_api.proofs.laws.wholes_are_kept.Goals as goal

pub returns : goal.returns
returns c = wholes_are_kept
