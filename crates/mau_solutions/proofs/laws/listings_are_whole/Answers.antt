use Rattle.mau_solutions.proofs.Following.{listings_are_whole}
use Rattle.mau_solutions.proofs.laws.listings_are_whole.Goals as goal

pub returns : goal.returns
returns c = listings_are_whole
