use Rattle.mau_lists.proofs.Multisets.{sub_lists_are_sub_multisets as law}
use Rattle.mau_lists.proofs.laws.sub_lists_are_sub_multisets.Goals as goal

pub returns : goal.returns
returns c = law
