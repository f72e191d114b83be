use Rattle.mau_store.proofs.Standing.{tree_of_node}
use Rattle.mau_store.proofs.laws.tree_of_node.Goals as goal

pub returns : goal.returns
returns c = tree_of_node
