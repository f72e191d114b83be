-- What nodes of the code stand for in definitions.
use Rattle.std.specs.Prelude.{ℕ, List, map, Bool, false, ◌==◌, ◌&&◌}
use Rattle.std.specs.Cmp.Lexicographic.{pointwise}
use Rattle.mau_terms.specs.contracts.ids.TermIdPartialEq.TheImpl.{eq-value}
use Rattle.mau_terms.specs.declared.ids.TermId.{TermId}
use Rattle.mau_store.specs.Node.{Node, numeral_node, variable_node, operator_node}
use Rattle.mau_store.specs.declared.node.NodeView.{NodeView}
use Rattle.mau_store.specs.declared.node.NodeView.TheVariants.{Num, Var, App}
use Rattle.mau_store.specs.declared.node.StoredNode.{StoredNode}
use Rattle.mau_store.specs.declared.node.StoredNode.TheVariants.{Num as StoredNum, Var as StoredVar, App as StoredApp}

-- the numbers in a list of ids
abbrev pub numbers : List TermId → List ℕ
numbers ids = map (λ id. id.0) ids

-- a node as it is read
abbrev pub node_of : NodeView → Node
node_of (Num n) = numeral_node n
node_of (Var v) = variable_node v.index v.sort
node_of (App op ids) = operator_node op.0 (numbers ids.now)

-- a node as it is stored
abbrev pub stored_node : StoredNode → Node
stored_node (StoredNum n) = numeral_node n
stored_node (StoredVar v) = variable_node v.index v.sort
stored_node (StoredApp op ids) = operator_node op.0 (numbers ids.items)

-- whether a stored node is the same as one that is read
abbrev pub same_as_stored : NodeView → StoredNode → Bool
same_as_stored (Num m) (StoredNum n) = m == n
same_as_stored (Num m) (StoredVar w) = false
same_as_stored (Num m) (StoredApp g us) = false
same_as_stored (Var v) (StoredNum n) = false
same_as_stored (Var v) (StoredVar w) = (v.index == w.index) && (v.sort == w.sort)
same_as_stored (Var v) (StoredApp g us) = false
same_as_stored (App f ts) (StoredNum n) = false
same_as_stored (App f ts) (StoredVar w) = false
same_as_stored (App f ts) (StoredApp g us) = (f.0 == g.0) && pointwise eq-value.it ts.now us.items
