-- Sets of sorts that hold with each sort all that are above it. They are kept as their minimal sorts, and a kind.
use Rattle.std.specs.Prelude.{◌≡◌, ◌⊎◌, ◌<◌, ◌↔◌, ℕ, List, [], ◌∷◌, All, Contains}
use Rattle.std.specs.List.Sorted.{IsStrictlyIncreasing}
use Rattle.mau_poset.specs.Order.{Hierarchy, IsAtOrBelow}
use Rattle.mau_sigcheck.specs.Tuples.{IsKind}

-- what is kept of a set
pub record SortsOf : Type 0 where
  pub minimal : List ℕ
  pub kind : ℕ

-- r is at or above one of these
abbrev pub IsAbove : Hierarchy → List ℕ → ℕ → Type 0
IsAbove h ms r = (m : ℕ) × Contains ms m × IsAtOrBelow h m r

-- r is one of the set
abbrev pub IsIn : Hierarchy → SortsOf → ℕ → Type 0
IsIn h e r = IsAbove h e.minimal r ⊎ (e.kind ≡ r)

-- none of these is below another
abbrev pub AreApart : Hierarchy → List ℕ → Type 0
AreApart h ms = (a b : ℕ) → Contains ms a → Contains ms b → IsAtOrBelow h a b → a ≡ b

-- `kept` are those of ms that are not above x
pub record AreNotAbove (h : Hierarchy) (x : ℕ) (ms kept : List ℕ) : Type 0 where
  pub kept_ones : (m : ℕ) → Contains kept m → Contains ms m × ¬ IsAtOrBelow h x m
  pub others : (m : ℕ) → Contains ms m → Contains kept m ⊎ IsAtOrBelow h x m

-- all are sorts, and none is a kind
abbrev pub AreSorts : Hierarchy → List ℕ → Type 0
AreSorts h ms = All (λ m. m < h.sorts) ms

-- what is kept is over these sorts and kinds
pub record IsOver (h : Hierarchy) (e : SortsOf) : Type 0 where
  pub minimal : AreSorts h e.minimal
  pub kind : IsKind h e.kind

-- e is what is kept of the set of all that P holds of: it has just these, and no sort more is kept than is needed
pub record IsKeptOf (h : Hierarchy) (P : ℕ → Type 0) (e : SortsOf) : Type 0 where
  pub exact : (r : ℕ) → IsIn h e r ↔ P r
  pub sorts : AreSorts h e.minimal
  pub kind : IsKind h e.kind
  pub apart : AreApart h e.minimal
  pub ascending : IsStrictlyIncreasing e.minimal

-- m is a minimal sort of those that P holds of: it is no kind, and none of them is below it
pub record IsMinimalSort (h : Hierarchy) (P : ℕ → Type 0) (m : ℕ) : Type 0 where
  pub sort : m < h.sorts
  pub holds : P m
  pub lowest : (q : ℕ) → P q → IsAtOrBelow h q m → q ≡ m

-- r is the least that P holds of
pub record IsLeast (h : Hierarchy) (P : ℕ → Type 0) (r : ℕ) : Type 0 where
  pub holds : P r
  pub least : (q : ℕ) → P q → IsAtOrBelow h r q

-- the sort that is shown: the first of the minimal sorts, or the kind where there is none
abbrev pub first_or_kind : List ℕ → ℕ → ℕ
first_or_kind [] k = k
first_or_kind (m ∷ ms) k = m

abbrev pub shown_sort : SortsOf → ℕ
shown_sort e = first_or_kind e.minimal e.kind
