use Rattle.mau_api.proofs.Bridge.{listed_are_left}
use Rattle.mau_api.proofs.laws.listed_are_left.Goals as goal

pub returns : goal.returns
returns c = listed_are_left
