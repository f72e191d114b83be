-- What a poset keeps beside its sorts and pairs.
use Rattle.std.specs.Prelude.{◌≡◌, ℕ, ◌≤◌, List, length}
use Rattle.mau_poset.specs.declared.TheConstants.{MAX_SORTS}
use Rattle.mau_poset.specs.Order.{Hierarchy, IsPoset, kinds}
use Rattle.mau_poset.specs.Closure.{IsClosureOf}
use Rattle.mau_poset.specs.Labels.{AreKindNumbers}

-- The table is the closure of the pairs, and the numbers are those of the kinds.
pub record IsBuilt (h : Hierarchy) (table numbers : List ℕ) (count : ℕ) : Type 0 where
  pub small : h.sorts ≤ MAX_SORTS
  pub poset : IsPoset h
  pub closure : IsClosureOf h.pairs h.sorts table
  pub len : length numbers ≡ h.sorts
  pub numbered : AreKindNumbers h.pairs numbers
  pub counted : count ≡ kinds h
