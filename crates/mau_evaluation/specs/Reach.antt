-- The list that a run reaches, depth first, over any entries and their successors.
use Rattle.std.specs.Prelude.{◌≡◌, ℕ, ◌<◌, List, [], ◌∷◌, ◌++◌, length, All, Contains}
use Rattle.std.specs.List.{slice_index_or}

-- x stands at place j
abbrev pub At : {C : Type 0} → List C → ℕ → C → Type 0
At xs j x = (j < length xs) × (slice_index_or xs j x ≡ x)

-- `Next e cs`: all successors of e are cs, in order. `Begins e cs`: its first successors are cs; so a run can go on where only these can be had.
module _ {C : Type 0} (Begins Next : C → List C → Type 0) where
  -- all successors of e are listed
  abbrev pub IsClosedAt : List C → C → Type 0
  IsClosedAt seen e = (cs : List C) × Next e cs × All (Contains seen) cs

  -- so it is for each entry behind place j
  abbrev pub ClosedBehind : List C → ℕ → Type 0
  ClosedBehind seen j = (i : ℕ) (d : C) → j < i → At seen i d → IsClosedAt seen d

  -- c is the first successor not yet listed of the latest entry that has one
  pub record IsNextEntry (seen : List C) (c : C) : Type 0 where
    pub from : ℕ
    pub entry : C
    pub stands : At seen from entry
    -- the successors of this entry before c, which are listed
    pub given : List C
    pub begins : Begins entry (given ++ c ∷ [])
    pub listed : All (Contains seen) given
    pub fresh : Contains seen c → ⊥
    -- no later entry has one that is not listed
    pub behind : ClosedBehind seen from

  -- the list, in the order of entry: it begins with the start, and is without repeats since each next entry is new
  pub data Reached (start : C) : List C → Type 0 where
    begun : Reached start (start ∷ [])
    entered : (seen : List C) (c : C) → Reached start seen → IsNextEntry seen c → Reached start (seen ++ c ∷ [])

  -- the run has ended: each entry has all its successors listed
  abbrev pub IsClosed : List C → Type 0
  IsClosed seen = (i : ℕ) (d : C) → At seen i d → IsClosedAt seen d

  -- the run is at e, at place j: behind it all is listed, and so are these first successors of it
  pub record IsAsked (seen : List C) (j : ℕ) (e : C) (given : List C) : Type 0 where
    pub stands : At seen j e
    pub begins : Begins e given
    pub listed : All (Contains seen) given
    pub behind : ClosedBehind seen j
