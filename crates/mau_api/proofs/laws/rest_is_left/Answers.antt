use Rattle.mau_api.proofs.Remaining.{rest_is}
use Rattle.mau_api.proofs.laws.rest_is_left.Goals as goal

pub returns : goal.returns
returns c = rest_is
