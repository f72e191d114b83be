-- A normal form read as a bare term: a list of an associative operator counts as nested to the right.
use Rattle.std.specs.Prelude.{ℕ, List, [], ◌∷◌, Bool, true, false}
use Rattle.mau_terms.specs.Tree.{Tree, variable, numeral, apply, Trees, no_trees, tree, node}
use Rattle.mau_terms.specs.Axioms.{binary}
use Rattle.mau_terms.specs.declared.theory.Theory.{Theory}

-- f(t, f(u, .. )) over t and then a list
abbrev pub nest_from : ℕ → Tree → List Tree → Tree
nest_from f t [] = t
nest_from f t (u ∷ us) = binary f t (nest_from f u us)

-- f over a list, which is nested to the right where f is associative
abbrev pub nest : Bool → ℕ → List Tree → Tree
nest true f (t ∷ ts) = nest_from f t ts
nest true f [] = node f []
nest false f ts = node f ts

-- a normal form with each list nested
abbrev mutual
  pub reading : (ℕ → Theory) → Tree → Tree
  reading th (variable i s) = variable i s
  reading th (numeral n) = numeral n
  reading th (apply f ts) = nest (th f).assoc f (readings th ts)

  pub readings : (ℕ → Theory) → Trees → List Tree
  readings th no_trees = []
  readings th (tree t ts) = reading th t ∷ readings th ts
