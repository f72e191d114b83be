use Rattle.mau_listing.proofs.Finitely.{count_falls_law as law}
use Rattle.mau_listing.proofs.laws.count_falls.Goals as goal

pub returns : goal.returns
returns c = law
