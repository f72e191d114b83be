-- A term that has the successor directly over the greatest numeral, which no numeral follows.
use Rattle.std.specs.Prelude.{ℕ, List, Bool, false, ◌&&◌, ◌||◌}
use Rattle.mau_terms.specs.Tree.{Tree, variable, numeral, apply, Trees, no_trees, tree}
use Rattle.mau_terms.specs.Norm.{is_greatest_numeral}
use Rattle.mau_signature.specs.Attributes.{has_number}

-- a tree has one, at its top or below, where ss are the operators that are the successor
abbrev mutual
  pub overflows : List ℕ → Tree → Bool
  overflows ss (variable i s) = false
  overflows ss (numeral n) = false
  overflows ss (apply f ts) = (has_number ss f && is_greatest_numeral ts) || some_overflow ss ts

  -- one of some trees has one
  pub some_overflow : List ℕ → Trees → Bool
  some_overflow ss no_trees = false
  some_overflow ss (tree t ts) = overflows ss t || some_overflow ss ts
