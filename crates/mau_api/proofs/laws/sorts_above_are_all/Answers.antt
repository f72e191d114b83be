use Rattle.mau_api.proofs.DeclaredSorts.{sorts_above_are_all}
use Rattle.mau_api.proofs.laws.sorts_above_are_all.Goals as goal

pub returns : goal.returns
returns c = sorts_above_are_all
