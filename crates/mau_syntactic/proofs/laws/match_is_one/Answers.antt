use Rattle.mau_syntactic.proofs.Below.{match_is_one as law}
use Rattle.mau_syntactic.proofs.laws.match_is_one.Goals as goal

pub returns : goal.returns
returns c = law
