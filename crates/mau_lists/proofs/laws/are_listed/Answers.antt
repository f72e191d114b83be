use Rattle.mau_lists.proofs.Listed.{are_listed as law}
use Rattle.mau_lists.proofs.laws.are_listed.Goals as goal

pub returns : goal.returns
returns c = law
