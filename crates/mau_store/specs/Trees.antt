-- The trees that the numbers of a store stand for.
use Rattle.std.specs.Prelude.{◌≡◌, ◌++◌, ℕ, List, [], ◌∷◌, All, map, fold, slice_index_or}
use Rattle.mau_terms.specs.Tree.{Tree, variable, numeral, node}
use Rattle.mau_terms.specs.Norm.{norm}
use Rattle.mau_terms.specs.declared.theory.Theory.{Theory}
use Rattle.mau_terms.specs.Depth.{depth}
use Rattle.mau_store.specs.Node.{Node, numeral_node, variable_node, operator_node, AreNodes}

-- the tree of a node, where g gives the trees of its arguments
abbrev pub tree_over : (ℕ → Tree) → Node → Tree
tree_over g (numeral_node n) = numeral n
tree_over g (variable_node i s) = variable i s
tree_over g (operator_node f ids) = node f (map g ids)

-- the tree at a place of a list; past its end the numeral 0, which is never meant
abbrev pub tree_or : List Tree → ℕ → Tree
tree_or ts i = slice_index_or ts i (numeral 0)

-- the trees ts of some nodes, and behind them that of the next node, whose arguments are among them
abbrev pub add_tree : List Tree → Node → List Tree
add_tree ts n = ts ++ tree_over (tree_or ts) n ∷ []

-- the trees of all nodes, in order
abbrev pub trees : List Node → List Tree
trees nodes = fold add_tree [] nodes

-- the tree that a number stands for
abbrev pub tree_at : List Node → ℕ → Tree
tree_at nodes i = tree_or (trees nodes) i

-- the trees that some numbers stand for
abbrev pub trees_at : List Node → List ℕ → List Tree
trees_at nodes ids = map (tree_at nodes) ids

-- what is kept of some nodes: how deep the tree of each is
pub record AreKept (nodes : List Node) (depths : List ℕ) : Type 0 where
  pub are : AreNodes nodes
  pub deep : depths ≡ map depth (trees nodes)

-- ---- normal forms, where th gives the axioms of each operator

-- the number stands for the term t: for its normal form
abbrev pub StandsFor : (ℕ → Theory) → List Node → ℕ → Tree → Type 0
StandsFor th nodes i t = tree_at nodes i ≡ norm th t

-- the number stands for a normal form
abbrev pub StandsForNorm : (ℕ → Theory) → List Node → ℕ → Type 0
StandsForNorm th nodes i = norm th (tree_at nodes i) ≡ tree_at nodes i

-- all of these numbers do
abbrev pub StandForNorms : (ℕ → Theory) → List Node → List ℕ → Type 0
StandForNorms th nodes ids = All (StandsForNorm th nodes) ids
