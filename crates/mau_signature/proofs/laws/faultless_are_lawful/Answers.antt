use Rattle.mau_signature.proofs.Lawful.{faultless_are_lawful}
use Rattle.mau_signature.proofs.laws.faultless_are_lawful.Goals as goal

pub returns : goal.returns
returns c = faultless_are_lawful
