-- Parts: what a place of a pattern may take of a subject.
use Rattle.std.specs.Prelude.{◌≡◌, ℕ, List, [], ◌++◌, Bool}
use Rattle.mau_terms.specs.Tree.{Tree}
use Rattle.mau_terms.specs.Norm.{arrange}
use Rattle.mau_terms.specs.Solution.{list_under}
use Rattle.mau_terms.specs.declared.theory.Theory.{Theory}

-- how much of a list is meant: the whole, what stands at its front, or what stands anywhere; under comm the last two are one
pub data Reach : Type 0 where
  whole : Reach
  front : Reach
  inside : Reach

-- one normal form, or all whose list under an associative operator is such a part of the items
pub data Part : Type 0 where
  just : Tree → Part
  some_of : Reach → ℕ → List Tree → Part

abbrev pub Leaves : Reach → List Tree → List Tree → Type 0
Leaves whole left right = (left ≡ []) × (right ≡ [])
Leaves front left right = left ≡ []
Leaves inside left right = Unit {0}

-- xs is such a part of ys
pub record Reaches (c : Bool) (r : Reach) (xs ys : List Tree) : Type 0 where
  pub left : List Tree
  pub right : List Tree
  pub leaves : Leaves r left right
  pub all : arrange c (left ++ (xs ++ right)) ≡ arrange c ys

abbrev pub IsOf : (ℕ → Theory) → Part → Tree → Type 0
IsOf th (just t) v = v ≡ t
IsOf th (some_of r f ts) v = Reaches (th f).comm r (list_under (th f) f v) ts
