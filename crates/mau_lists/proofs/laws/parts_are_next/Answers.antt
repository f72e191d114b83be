use Rattle.mau_lists.proofs.Next.{parts_are_next as law}
use Rattle.mau_lists.proofs.laws.parts_are_next.Goals as goal

pub returns : goal.returns
returns c = law
