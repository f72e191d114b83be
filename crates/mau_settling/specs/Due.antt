-- What comes next in the order in which sorts are settled: arguments before their operator, and from left to right.
use Rattle.std.specs.Prelude.{◌≡◌, ◌<◌, ℕ, List, [], ◌∷◌, ◌++◌, All, Some, length, slice_get, slice_index_or}
use Rattle.mau_store.specs.Node.{Node, operator_node, arguments, IsOf}
use Rattle.mau_sorts.specs.Table.{Table, IsSettled}
use Rattle.mau_settling.specs.declared.walk.Place.{Place}

-- j is the number i itself, or below it; and of i all is settled that comes before j and isn't below it
pub data IsDueIn (nodes : List Node) (table : Table) : ℕ → ℕ → Type 0 where
  itself : (i j : ℕ) → i ≡ j → IsDueIn nodes table i j
  in_argument : (i f : ℕ) (before : List ℕ) (a : ℕ) (after : List ℕ) (j : ℕ) → slice_get nodes i ≡ Some (operator_node f (before ++ a ∷ after)) →
      All (IsSettled table) before → IsDueIn nodes table a j → IsDueIn nodes table i j

-- j is the first of i and what is below it that isn't settled: all that comes before it is, its arguments among it
pub record IsFirstUnsettled (nodes : List Node) (table : Table) (i j : ℕ) : Type 0 where
  pub due : IsDueIn nodes table i j
  pub there : IsOf nodes j
  pub arguments : (n : Node) → slice_get nodes j ≡ Some n → All (IsSettled table) (arguments n)
  pub unsettled : ¬ IsSettled table j

-- on the way down from i: a term that is due in it, with so many of its arguments settled
pub record IsPlaceIn (nodes : List Node) (table : Table) (i : ℕ) (p : Place) : Type 0 where
  pub there : IsOf nodes p.term.0
  pub due : IsDueIn nodes table i p.term.0
  pub behind : (n : Node) → slice_get nodes p.term.0 ≡ Some n → (k : ℕ) → k < p.next → k < length (arguments n) → IsSettled table (slice_index_or (arguments n) k 0)

-- a is the argument that comes next at a place
pub record IsArgumentAt (nodes : List Node) (p : Place) (a : ℕ) : Type 0 where
  pub operator : ℕ
  pub ids : List ℕ
  pub at : slice_get nodes p.term.0 ≡ Some (operator_node operator ids)
  pub within : p.next < length ids
  pub is : a ≡ slice_index_or ids p.next 0
  pub there : IsOf nodes a

-- in the first of several terms
abbrev pub IsDueInFirst : List Node → Table → List ℕ → ℕ → Type 0
IsDueInFirst nodes table [] j = ⊥
IsDueInFirst nodes table (i ∷ is) j = IsDueIn nodes table i j

abbrev pub IsPlaceInFirst : List Node → Table → List ℕ → Place → Type 0
IsPlaceInFirst nodes table [] p = ⊥
IsPlaceInFirst nodes table (i ∷ is) p = IsPlaceIn nodes table i p
