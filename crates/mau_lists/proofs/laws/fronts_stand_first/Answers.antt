use Rattle.mau_lists.proofs.Multisets.{fronts_stand_first as law}
use Rattle.mau_lists.proofs.laws.fronts_stand_first.Goals as goal

pub returns : goal.returns
returns c = law
