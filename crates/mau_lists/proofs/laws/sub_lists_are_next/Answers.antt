use Rattle.mau_lists.proofs.Next.{sub_lists_are_next as law}
use Rattle.mau_lists.proofs.laws.sub_lists_are_next.Goals as goal

pub returns : goal.returns
returns c = law
