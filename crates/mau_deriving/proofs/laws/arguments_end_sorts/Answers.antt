use Rattle.mau_deriving.proofs.Below.{arguments_end_sorts}
use Rattle.mau_deriving.proofs.laws.arguments_end_sorts.Goals as goal

pub returns : goal.returns
returns c = arguments_end_sorts
