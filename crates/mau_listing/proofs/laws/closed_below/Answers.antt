use Rattle.mau_listing.proofs.Closed.{closed_below as law}
use Rattle.mau_listing.proofs.laws.closed_below.Goals as goal

pub returns : goal.returns
returns c = law
