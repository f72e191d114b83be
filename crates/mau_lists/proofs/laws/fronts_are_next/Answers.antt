use Rattle.mau_lists.proofs.Next.{fronts_are_next as law}
use Rattle.mau_lists.proofs.laws.fronts_are_next.Goals as goal

pub returns : goal.returns
returns c = law
