use Rattle.mau_terms.proofs.Pairs.{pairs_keep_places}
use Rattle.mau_terms.proofs.laws.pairs_keep_places.Goals as goal

pub returns : goal.returns
returns c = pairs_keep_places
