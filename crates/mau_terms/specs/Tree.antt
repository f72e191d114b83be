-- Trees: what terms and normal forms are in every definition.
use Rattle.std.specs.Prelude.{ℕ, List, [], ◌∷◌}

mutual
  pub data Tree : Type 0 where
    -- a variable: its index, and the number of its sort
    variable : ℕ → ℕ → Tree
    -- a numeral: its value
    numeral : ℕ → Tree
    -- an operator, by its number, over its arguments; a constant has none
    apply : ℕ → Trees → Tree

  -- a list of trees, which has to be a type of its own
  pub data Trees : Type 0 where
    no_trees : Trees
    tree : Tree → Trees → Trees

abbrev pub trees_of : List Tree → Trees
trees_of [] = no_trees
trees_of (t ∷ ts) = tree t (trees_of ts)

abbrev pub list_of : Trees → List Tree
list_of no_trees = []
list_of (tree t ts) = t ∷ list_of ts

-- the operator f over a list of arguments
abbrev pub node : ℕ → List Tree → Tree
node f ts = apply f (trees_of ts)
