use Rattle.mau_store.proofs.Growth.{extension_keeps_terms}
use Rattle.mau_store.proofs.laws.extension_keeps_terms.Goals as goal

pub returns : goal.returns
returns c = extension_keeps_terms
