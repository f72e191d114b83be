use Rattle.mau_listing.proofs.Ordered.{entries_are_sorts as law}
use Rattle.mau_listing.proofs.laws.entries_are_sorts.Goals as goal

pub returns : goal.returns
returns c = law
