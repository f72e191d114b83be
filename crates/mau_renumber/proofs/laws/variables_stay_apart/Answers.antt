use Rattle.mau_renumber.proofs.Apart.{variables_apart}
use Rattle.mau_renumber.proofs.laws.variables_stay_apart.Goals as goal

pub returns : goal.returns
returns c = variables_apart
