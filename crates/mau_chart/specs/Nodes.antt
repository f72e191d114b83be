-- The trees of a store by their numbers, and nodes over them.
use Rattle.std.specs.Prelude.{◌≡◌, ℕ, ◌<◌, List, [], ◌∷◌, ◌++◌, get_or}
use Rattle.mau_terms.specs.Tree.{Tree, variable, numeral, node}
use Rattle.mau_terms.specs.declared.ids.TermId.{TermId}
use Rattle.mau_store.specs.declared.node.NodeView.{NodeView}
use Rattle.mau_store.specs.declared.node.NodeView.TheVariants.{Num, Var, App}

-- the tree with the number i; past the end the numeral 0, which is never meant
abbrev pub tree_at : List Tree → ℕ → Tree
tree_at ts i = get_or ts i (numeral 0)

abbrev pub trees_at : List Tree → List TermId → List Tree
trees_at ts [] = []
trees_at ts (i ∷ is) = tree_at ts i.0 ∷ trees_at ts is

-- the tree of a node, whose arguments are among ts
abbrev pub node_tree : List Tree → NodeView → Tree
node_tree ts (Num n) = numeral n
node_tree ts (Var v) = variable v.index v.sort
node_tree ts (App op ids) = node op.0 (trees_at ts ids.now)

abbrev pub AllBelow : ℕ → List TermId → Type 0
AllBelow k [] = Unit {0}
AllBelow k (i ∷ is) = (i.0 < k) × AllBelow k is

-- the arguments of the node have numbers below k
abbrev pub NamesBelow : ℕ → NodeView → Type 0
NamesBelow k (Num n) = Unit {0}
NamesBelow k (Var v) = Unit {0}
NamesBelow k (App op ids) = AllBelow k ids.now

-- the trees that were there stay, with their numbers
abbrev pub Extends : List Tree → List Tree → Type 0
Extends old new = (more : List Tree) × (new ≡ old ++ more)
