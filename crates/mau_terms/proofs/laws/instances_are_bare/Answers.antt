use Rattle.mau_terms.proofs.Instances.{instances_are_bare}
use Rattle.mau_terms.proofs.laws.instances_are_bare.Goals as goal

pub returns : goal.returns
returns c = instances_are_bare
