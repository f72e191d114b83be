use Rattle.mau_listing.proofs.Ordered.{matchers_are_ordered as law}
use Rattle.mau_listing.proofs.laws.matchers_are_ordered.Goals as goal

pub returns : goal.returns
returns c = law
