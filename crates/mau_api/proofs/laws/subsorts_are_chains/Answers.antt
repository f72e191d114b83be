use Rattle.mau_api.proofs.DeclaredSorts.{subsorts_are_chains}
use Rattle.mau_api.proofs.laws.subsorts_are_chains.Goals as goal

pub returns : goal.returns
returns c = subsorts_are_chains
