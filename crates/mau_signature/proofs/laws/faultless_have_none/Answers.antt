use Rattle.mau_signature.proofs.FirstFaults.{faultless_have_none}
use Rattle.mau_signature.proofs.laws.faultless_have_none.Goals as goal

pub returns : goal.returns
returns c = faultless_have_none
