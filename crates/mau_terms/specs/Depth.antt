-- How deep a tree is.
use Rattle.std.specs.Prelude.{◌≡◌, ℕ, suc, max, List, [], ◌∷◌, refl}
use Rattle.std.proofs.Common.{ap}
use Rattle.mau_terms.specs.Tree.{Tree, variable, numeral, apply, Trees, no_trees, tree, trees_of}

-- a leaf has 1
abbrev mutual
  pub depth : Tree → ℕ
  depth (variable i s) = 1
  depth (numeral n) = 1
  depth (apply f ts) = suc (depths ts)

  -- the depth of the deepest, or 0 where there is none
  pub depths : Trees → ℕ
  depths no_trees = 0
  depths (tree t ts) = max (depth t) (depths ts)

-- the same of a list
abbrev pub list_depth : List Tree → ℕ
list_depth [] = 0
list_depth (t ∷ ts) = max (depth t) (list_depth ts)

pub depths-trees_of : (ts : List Tree) → depths (trees_of ts) ≡ list_depth ts
depths-trees_of [] = refl
depths-trees_of (t ∷ ts) = ap (max (depth t)) (depths-trees_of ts)
