use Rattle.mau_listing.proofs.Alone.{wholes_are_parts as law}
use Rattle.mau_listing.proofs.laws.wholes_are_parts.Goals as goal

pub returns : goal.returns
returns c = law
