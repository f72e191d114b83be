use Rattle.mau_listing.proofs.Growth.{listings_go_on as law}
use Rattle.mau_listing.proofs.laws.listings_go_on.Goals as goal

pub returns : goal.returns
returns c = law
