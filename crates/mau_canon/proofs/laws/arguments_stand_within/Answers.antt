use Rattle.mau_canon.proofs.Standing.{arguments_stand_within}
use Rattle.mau_canon.proofs.laws.arguments_stand_within.Goals as goal

pub returns : goal.returns
returns c = arguments_stand_within
