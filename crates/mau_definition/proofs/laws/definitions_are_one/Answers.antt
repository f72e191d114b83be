use Rattle.mau_definition.proofs.OneDefinition.{definition_once}
use Rattle.mau_definition.proofs.laws.definitions_are_one.Goals as goal

pub returns : goal.returns
returns c = λ a shaped raw r r' x y. definition_once a shaped raw r r' x y
