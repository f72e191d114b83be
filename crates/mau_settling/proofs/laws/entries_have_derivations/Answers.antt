use Rattle.mau_settling.proofs.Ended.{entries_have_derivations}
use Rattle.mau_settling.proofs.laws.entries_have_derivations.Goals as goal

pub returns : goal.returns
returns c = entries_have_derivations
