-- Operators without axioms, and terms that have no others.
use Rattle.std.specs.Prelude.{ℕ, Bool, true, ◌&&◌, not, is_some}
use Rattle.mau_terms.specs.Tree.{Tree, variable, numeral, apply, Trees, no_trees, tree}
use Rattle.mau_terms.specs.declared.theory.Theory.{Theory}

-- neither associative nor commutative, without identity, and not the successor
abbrev pub is_free : Theory → Bool
is_free h = not h.assoc && (not h.comm && (not (is_some h.id) && not h.succ))

-- each operator of t is free
abbrev mutual
  pub has_free_operators : (ℕ → Theory) → Tree → Bool
  has_free_operators th (variable i s) = true
  has_free_operators th (numeral n) = true
  has_free_operators th (apply f ts) = is_free (th f) && have_free_operators th ts

  pub have_free_operators : (ℕ → Theory) → Trees → Bool
  have_free_operators th no_trees = true
  have_free_operators th (tree t ts) = has_free_operators th t && have_free_operators th ts
