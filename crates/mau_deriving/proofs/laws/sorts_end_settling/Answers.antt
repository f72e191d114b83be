use Rattle.mau_deriving.proofs.Below.{sorts_end_settling}
use Rattle.mau_deriving.proofs.laws.sorts_end_settling.Goals as goal

pub returns : goal.returns
returns c = sorts_end_settling
