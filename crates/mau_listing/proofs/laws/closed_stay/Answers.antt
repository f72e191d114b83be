use Rattle.mau_listing.proofs.Closed.{closed_stay as law}
use Rattle.mau_listing.proofs.laws.closed_stay.Goals as goal

pub returns : goal.returns
returns c = law
