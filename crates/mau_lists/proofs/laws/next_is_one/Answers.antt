use Rattle.mau_lists.proofs.Next.{next_is_one as law}
use Rattle.mau_lists.proofs.laws.next_is_one.Goals as goal

pub returns : goal.returns
returns c = law
