use Rattle.mau_settling.proofs.Causes.{conditions_may_end}
use Rattle.mau_settling.proofs.laws.conditions_may_end.Goals as goal

pub returns : goal.returns
returns c = conditions_may_end
