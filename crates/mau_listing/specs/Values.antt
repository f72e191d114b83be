-- What the values of a pattern's variables may be: more than are values, and never fewer.
use Rattle.std.specs.Prelude.{◌≡◌, ◌⊎◌, ℕ, ◌+◌, ◌≤◌, List, length, All, true, Some}
use Rattle.mau_terms.specs.Tree.{Tree, variable, numeral, apply, Trees, no_trees, tree}
use Rattle.mau_terms.specs.Norm.{unit_tree}
use Rattle.mau_terms.specs.Solution.{list_under, over_list}
use Rattle.mau_terms.specs.Finite.{IsIn, arguments_of}
use Rattle.mau_terms.specs.declared.theory.Identity.{Identity}
use Rattle.mau_terms.specs.declared.theory.Theory.{Theory}

-- z may be an argument of f, where the normal form of f over its arguments is t: the identity, t itself, an argument of t, the
-- numeral before t, or f over a list of elements of t that is not longer than t's
pub data IsPartUnder (th : ℕ → Theory) (f : ℕ) (t z : Tree) : Type 0 where
  identity : (i : Identity) → (th f).id ≡ Some i → z ≡ unit_tree i → IsPartUnder th f t z
  itself : z ≡ t → IsPartUnder th f t z
  argument : IsIn z (arguments_of t) → IsPartUnder th f t z
  one_less : (n : ℕ) → t ≡ numeral (n + 1) → z ≡ numeral n → IsPartUnder th f t z
  list : (ts : List Tree) → (th f).assoc ≡ true → All (λ u. IsIn u (list_under (th f) f t)) ts → length ts ≤ length (list_under (th f) f t) → z ≡ over_list (th f) f ts → IsPartUnder th f t z

-- v may be the value of a variable of a pattern, where the normal form of the instance is t
abbrev mutual
  pub MayBeValue : (ℕ → Theory) → Tree → Tree → Tree → Type 0
  MayBeValue th (variable i s) t v = v ≡ t
  MayBeValue th (numeral n) t v = ⊥
  MayBeValue th (apply f ps) t v = (z : Tree) × IsPartUnder th f t z × MayBeValueOfOne th ps z v

  -- of one of some patterns
  pub MayBeValueOfOne : (ℕ → Theory) → Trees → Tree → Tree → Type 0
  MayBeValueOfOne th no_trees t v = ⊥
  MayBeValueOfOne th (tree p ps) t v = MayBeValue th p t v ⊎ MayBeValueOfOne th ps t v
