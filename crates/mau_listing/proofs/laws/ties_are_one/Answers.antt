use Rattle.mau_listing.proofs.Ordered.{ties_are_one as law}
use Rattle.mau_listing.proofs.laws.ties_are_one.Goals as goal

pub returns : goal.returns
returns c = law
