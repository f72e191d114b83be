-- Nodes, lists of nodes that make a store, and the extension of a store. A node's number is its place in the list, counted from 0.
use Rattle.std.specs.Prelude.{◌≡◌, ◌<◌, ◌++◌, ℕ, List, [], All, length, slice_get, Some}

-- one node of a shared term; its arguments are named by their numbers
pub data Node : Type 0 where
  -- a numeral: its value
  numeral_node : ℕ → Node
  -- a variable: its index, and the number of its sort
  variable_node : ℕ → ℕ → Node
  -- an operator, by its number, over the numbers of its arguments
  operator_node : ℕ → List ℕ → Node

-- the numbers of a node's arguments
abbrev pub arguments : Node → List ℕ
arguments (numeral_node n) = []
arguments (variable_node i s) = []
arguments (operator_node f ids) = ids

-- ---- numbers of a store

-- i is the number of a node
abbrev pub IsOf : List Node → ℕ → Type 0
IsOf nodes i = i < length nodes

-- all are below n
abbrev pub AreBelow : ℕ → List ℕ → Type 0
AreBelow n ids = All (λ i. i < n) ids

-- all are numbers of nodes
abbrev pub AreOf : List Node → List ℕ → Type 0
AreOf nodes ids = AreBelow (length nodes) ids

-- ---- stores

-- equal nodes have one number
abbrev pub IsShared : List Node → Type 0
IsShared nodes = (j k : ℕ) (n : Node) → slice_get nodes j ≡ Some n → slice_get nodes k ≡ Some n → j ≡ k

-- the arguments of each node are older than it
abbrev pub IsClosed : List Node → Type 0
IsClosed nodes = (k : ℕ) (n : Node) → slice_get nodes k ≡ Some n → AreBelow k (arguments n)

-- what holds of the nodes of every store
pub record AreNodes (nodes : List Node) : Type 0 where
  pub shared : IsShared nodes
  pub closed : IsClosed nodes

-- the nodes that were there stay as they were, with their numbers; others may follow
abbrev pub Extends : List Node → List Node → Type 0
Extends old new = (more : List Node) × (new ≡ old ++ more)
