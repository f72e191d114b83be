-- The lowest of some results, by one run through the declarations.
use Rattle.std.specs.Prelude.{◌≡◌, ℕ, ◌⊎◌, List, Option, Some, None}
use Rattle.mau_poset.specs.Order.{Hierarchy, IsAtOrBelow}
use Rattle.mau_signature.specs.declared.decl.Decl.{Decl}
use Rattle.mau_signature.specs.Signature.{IsResult, IsLeastResult, AppliesNone}

-- r is at or below each result
abbrev pub IsBelowResults : Hierarchy → List Decl → List ℕ → ℕ → Type 0
IsBelowResults h ds sorts r = (q : ℕ) → IsResult h ds sorts q → IsAtOrBelow h r q

-- r is a result, and at or below the least result, if there is one
pub record IsLow (h : Hierarchy) (ds : List Decl) (sorts : List ℕ) (r : ℕ) : Type 0 where
  pub one : IsResult h ds sorts r
  pub low : (m : ℕ) → IsLeastResult h ds sorts m → IsAtOrBelow h r m

-- there is such a result, or no declaration applies
abbrev pub IsLowestResult : Hierarchy → List Decl → List ℕ → Option ℕ → Type 0
IsLowestResult h ds sorts (Some r) = IsLow h ds sorts r
IsLowestResult h ds sorts None = AppliesNone h ds sorts

-- r is s, unless s is not at or below the one that was there
abbrev pub IsLower : Hierarchy → Option ℕ → ℕ → ℕ → Type 0
IsLower h None s r = r ≡ s
IsLower h (Some low) s r = (IsAtOrBelow h s low × (r ≡ s)) ⊎ ((¬ IsAtOrBelow h s low) × (r ≡ low))
