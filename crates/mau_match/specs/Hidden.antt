-- Patterns in which a variable has another name at some of its places.
use Rattle.std.specs.Prelude.{◌≡◌, ◌⊎◌}
use Rattle.mau_terms.specs.Tree.{Tree, variable, numeral, apply, Trees, no_trees, tree}
use Rattle.mau_terms.specs.Subst.{Variable}

-- the second tree is the first one, but that x may be y at some places
abbrev mutual
  pub IsHidden : Variable → Variable → Tree → Tree → Type 0
  IsHidden x y (variable i s) u = (u ≡ variable i s) ⊎ (((i, s) ≡ x) × (u ≡ variable y.0 y.1))
  IsHidden x y (numeral n) u = u ≡ numeral n
  IsHidden x y (apply f ts) u = (us : Trees) × (u ≡ apply f us) × AreHidden x y ts us

  pub AreHidden : Variable → Variable → Trees → Trees → Type 0
  AreHidden x y no_trees us = us ≡ no_trees
  AreHidden x y (tree t ts) us = (v : Tree) × (vs : Trees) × (us ≡ tree v vs) × IsHidden x y t v × AreHidden x y ts vs
