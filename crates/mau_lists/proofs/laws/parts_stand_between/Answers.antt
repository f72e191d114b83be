use Rattle.mau_lists.proofs.Multisets.{parts_stand_between as law}
use Rattle.mau_lists.proofs.laws.parts_stand_between.Goals as goal

pub returns : goal.returns
returns c = law
