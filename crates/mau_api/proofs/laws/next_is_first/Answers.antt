use Rattle.mau_api.proofs.Remaining.{next_is}
use Rattle.mau_api.proofs.laws.next_is_first.Goals as goal

pub returns : goal.returns
returns c = next_is
