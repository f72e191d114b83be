use Rattle.mau_signing.proofs.OneSignature.{signature_once}
use Rattle.mau_signing.proofs.laws.signatures_are_one.Goals as goal

pub returns : goal.returns
returns c = λ names g conflict r s x y. signature_once names g conflict x y
