use Rattle.mau_syntactic.proofs.Below.{values_are_below as law}
use Rattle.mau_syntactic.proofs.laws.values_are_below.Goals as goal

pub returns : goal.returns
returns c = law
