use Rattle.mau_store.proofs.Norms.{arguments_stand_for_norms}
use Rattle.mau_store.proofs.laws.arguments_stand_for_norms.Goals as goal

pub returns : goal.returns
returns c = arguments_stand_for_norms
