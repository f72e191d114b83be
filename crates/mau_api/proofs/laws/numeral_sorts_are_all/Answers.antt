use Rattle.mau_api.proofs.DeclaredSorts.{numeral_sorts_are_all}
use Rattle.mau_api.proofs.laws.numeral_sorts_are_all.Goals as goal

pub returns : goal.returns
returns c = numeral_sorts_are_all
