-- The laws of the order on sorts and kinds, as the public functions of `laws` state them.
use Rattle.std.specs.Prelude.{◌≡◌, ℕ, ◌+◌, ◌<◌, ◌≤◌, ◌↔◌, List}
use Rattle.mau_poset.specs.Order.{Hierarchy, IsWithin, IsPoset, AreJoined, kinds, kind_of, IsAtOrBelow, IsLeastOf}

-- each sort and each kind is at or below itself
abbrev pub OrderIsReflexive : Type 0
OrderIsReflexive = (h : Hierarchy) (a : ℕ) → IsAtOrBelow h a a

-- what is at or below b is at or below all that b is at or below
abbrev pub OrderIsTransitive : Type 0
OrderIsTransitive = (h : Hierarchy) → IsWithin h.pairs h.sorts → (a b c : ℕ) → IsAtOrBelow h a b → IsAtOrBelow h b c → IsAtOrBelow h a c

-- two that are at or below one another are one
abbrev pub OrderIsAntisymmetric : Type 0
OrderIsAntisymmetric = (h : Hierarchy) → IsPoset h → (a b : ℕ) → IsAtOrBelow h a b → IsAtOrBelow h b a → a ≡ b

-- a sort is below its own kind and below no other
abbrev pub SortsHaveOneKind : Type 0
SortsHaveOneKind = (h : Hierarchy) → IsWithin h.pairs h.sorts → (a k : ℕ) → a < h.sorts → h.sorts ≤ k → IsAtOrBelow h a k ↔ (k ≡ kind_of h a)

-- two sorts have one kind exactly where pairs, each in either direction, join them
abbrev pub KindsAreJoinedSorts : Type 0
KindsAreJoinedSorts = (h : Hierarchy) (a b : ℕ) → a < h.sorts → b < h.sorts → (kind_of h a ≡ kind_of h b) ↔ AreJoined h.pairs a b

-- a is the first sort of its kind
abbrev pub IsFirst : Hierarchy → ℕ → Type 0
IsFirst h a = (a < h.sorts) × ((b : ℕ) → AreJoined h.pairs a b → a ≤ b)

-- The kinds have the numbers from `sorts` on: each sort's kind is one of them, each of them is a kind, and a kind with
-- an earlier first sort has a lower number.
pub record NumbersKinds (h : Hierarchy) : Type 0 where
  pub in_range : (a : ℕ) → a < h.sorts → (h.sorts ≤ kind_of h a) × (kind_of h a < h.sorts + kinds h)
  pub each : (k : ℕ) → h.sorts ≤ k → k < h.sorts + kinds h → (a : ℕ) × IsFirst h a × (kind_of h a ≡ k)
  pub in_order : (a b : ℕ) → IsFirst h a → IsFirst h b → a < b → kind_of h a < kind_of h b

-- the kinds are numbered by their first sorts
abbrev pub KindsAreNumberedByFirstSort : Type 0
KindsAreNumberedByFirstSort = (h : Hierarchy) → NumbersKinds h

-- a list of sorts and kinds has at most one least
abbrev pub LeastIsOne : Type 0
LeastIsOne = (h : Hierarchy) → IsPoset h → (sorts : List ℕ) (m n : ℕ) → IsLeastOf h sorts m → IsLeastOf h sorts n → m ≡ n
