use Rattle.mau_listing.proofs.Finitely.{count_stays as law}
use Rattle.mau_listing.proofs.laws.count_stays.Goals as goal

pub returns : goal.returns
returns c = law
