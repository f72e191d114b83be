use Rattle.mau_listing.proofs.Ordered.{all_are_listed as law}
use Rattle.mau_listing.proofs.laws.all_are_listed.Goals as goal

pub returns : goal.returns
returns c = law
