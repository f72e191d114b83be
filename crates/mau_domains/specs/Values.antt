-- The values of a part, and their order.
use Rattle.std.specs.Prelude.{◌≡◌, ℕ, [], Option, None}
use Rattle.std.specs.declared.cmp.Ordering.{Ordering}
use Rattle.mau_terms.specs.Tree.{Tree}
use Rattle.mau_terms.specs.Norm.{norm}
use Rattle.mau_terms.specs.Solution.{list_under, list_cmp, value_key}
use Rattle.mau_terms.specs.declared.theory.Theory.{Theory}
use Rattle.mau_domains.specs.Parts.{Part, just, some_of, IsOf}

-- the empty list is one of a value only where the operator has an identity
abbrev pub IsFilled : (ℕ → Theory) → Part → Tree → Type 0
IsFilled th (just t) v = Unit {0}
IsFilled th (some_of r f ts) v = (th f).id ≡ None → list_under (th f) f v ≡ [] → ⊥

-- v is a value of a part: a normal form that is of it
pub record IsValueOf (th : ℕ → Theory) (q : Part) (v : Tree) : Type 0 where
  pub normal : norm th v ≡ v
  pub of : IsOf th q v
  pub filled : IsFilled th q v

-- the order of values of a variable that first occurs under an associative operator, or under none; it is the same at each place k
abbrev pub by_key : (ℕ → Theory) → Option ℕ → ℕ → Tree → Tree → Ordering
by_key th o k v w = list_cmp (value_key th o v) (value_key th o w)
