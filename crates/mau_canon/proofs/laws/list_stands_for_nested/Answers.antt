use Rattle.mau_canon.proofs.Standing.{list_stands_for_nested}
use Rattle.mau_canon.proofs.laws.list_stands_for_nested.Goals as goal

pub returns : goal.returns
returns c = list_stands_for_nested
