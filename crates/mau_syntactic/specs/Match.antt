-- Matching without axioms.
use Rattle.std.specs.Prelude.{◌≡◌, ℕ, List, length, Option, Some, None}
use Rattle.mau_terms.specs.Tree.{Tree, variable, numeral, apply}
use Rattle.mau_terms.specs.Subst.{variables, with_values}

-- vs has one value for each variable of p, by first occurrence, and the instance is the tree t itself
pub record IsMatch (p t : Tree) (vs : List Tree) : Type 0 where
  pub one_each : length vs ≡ length (variables p)
  pub whole : with_values p vs ≡ t

-- the operator at the root, if there is one
abbrev pub top_of : Tree → Option ℕ
top_of (variable i s) = None
top_of (numeral n) = None
top_of (apply f ts) = Some f
