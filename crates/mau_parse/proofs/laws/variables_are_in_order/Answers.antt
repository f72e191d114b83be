use Rattle.mau_parse.proofs.VariablesSeen.{variables_are_in_order}
use Rattle.mau_parse.proofs.laws.variables_are_in_order.Goals as goal

pub returns : goal.returns
returns c = variables_are_in_order
