use Rattle.mau_canon.proofs.Standing.{stands_within_extended}
use Rattle.mau_canon.proofs.laws.stands_within_extended.Goals as goal

pub returns : goal.returns
returns c = stands_within_extended
