-- Calls of `next`, one after another, over a store that may grow between them.
use Rattle.std.specs.Prelude.{ℕ, List, [], ◌∷◌, Option, Some, None}
use Rattle.mau_store.specs.Node.{Node, Extends}
use Rattle.mau_lists.specs.Lists.{IsSubList, IsPart}
use Rattle.mau_lists.specs.Terms.{IsNextSubList, IsNextPart}

-- IsRun nodes due all: over these items, calls of `next` give the lists of all, one by one, and then none, where due is due at the
-- first call, in a store of these nodes. A call gives the list that is due, which is one of the kind IsOne; what is due then is
-- said by IsBehind, in the store that was handed in; and the store handed in next extends that one.
pub data IsRun (IsOne : List ℕ → List ℕ → Type 0) (IsBehind : List Node → List ℕ → List ℕ → Option (List ℕ) → Type 0) (items : List ℕ) : List Node → Option (List ℕ) → List (List ℕ) → Type 0 where
  over : (nodes : List Node) → IsRun IsOne IsBehind items nodes None []
  turn : (nodes later : List Node) (list : List ℕ) (due : Option (List ℕ)) (rest : List (List ℕ)) →
      IsOne list items → IsBehind nodes items list due → Extends nodes later → IsRun IsOne IsBehind items later due rest →
      IsRun IsOne IsBehind items nodes (Some list) (list ∷ rest)

abbrev pub IsSubListRun : List ℕ → List Node → Option (List ℕ) → List (List ℕ) → Type 0
IsSubListRun items = IsRun IsSubList IsNextSubList items

abbrev pub IsPartRun : List ℕ → List Node → Option (List ℕ) → List (List ℕ) → Type 0
IsPartRun items = IsRun IsPart IsNextPart items
