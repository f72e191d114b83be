use Rattle.mau_terms.proofs.Plain.{plain_norm}
use Rattle.mau_terms.proofs.laws.plain_is_normal.Goals as goal

pub returns : goal.returns
returns c = plain_norm
