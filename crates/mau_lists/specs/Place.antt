-- Where a listing of sub-lists or parts stands.
use Rattle.std.specs.Prelude.{◌≡◌, ℕ, ◌≤◌, List, [], take, Option, Some, None}

-- The items, and the list that comes next, by their numbers; none after the last list. Numbers outlast a growing store, in which
-- they keep their trees.
pub record Place : Type 0 where
  pub items : List ℕ
  pub due : Option (List ℕ)

-- at first the empty list is due
abbrev pub at_first : List ℕ → Place
at_first items = record { items = items; due = Some [] }

-- what is due once the list that was due is given, where IsBehind items l o says that o comes behind l; after the last nothing is
abbrev pub IsDueAfter : (List ℕ → List ℕ → Option (List ℕ) → Type 0) → List ℕ → Option (List ℕ) → Option (List ℕ) → Type 0
IsDueAfter IsBehind items None due = due ≡ None
IsDueAfter IsBehind items (Some l) due = IsBehind items l due

-- one step on, over the same items
pub record IsStep (IsBehind : List ℕ → List ℕ → Option (List ℕ) → Type 0) (old new : Place) : Type 0 where
  pub items : new.items ≡ old.items
  pub due : IsDueAfter IsBehind old.items old.due new.due

-- the front of a list of so many elements
abbrev pub front_of : {A : Type 0} → Option ℕ → List A → Option (List A)
front_of None xs = None
front_of (Some n) xs = Some (take n xs)

abbrev pub IsWithin : Option ℕ → ℕ → Type 0
IsWithin None n = Unit {0}
IsWithin (Some k) n = k ≤ n
