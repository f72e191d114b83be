use Rattle.mau_listing.proofs.Ordered.{first_ascend as law}
use Rattle.mau_listing.proofs.laws.first_ascend.Goals as goal

pub returns : goal.returns
returns c = law
