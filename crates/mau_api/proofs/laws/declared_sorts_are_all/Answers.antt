use Rattle.mau_api.proofs.DeclaredSorts.{declared_sorts_are_all}
use Rattle.mau_api.proofs.laws.declared_sorts_are_all.Goals as goal

pub returns : goal.returns
returns c = declared_sorts_are_all
