use Rattle.mau_canon.proofs.Depths.{arguments_are_within}
use Rattle.mau_canon.proofs.laws.arguments_are_within.Goals as goal

pub returns : goal.returns
returns c = arguments_are_within
