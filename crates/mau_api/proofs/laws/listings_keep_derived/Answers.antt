use Rattle.mau_api.proofs.KeepsDerived.{listings_keep_derived}
use Rattle.mau_api.proofs.laws.listings_keep_derived.Goals as goal

pub returns : goal.returns
returns c = listings_keep_derived
