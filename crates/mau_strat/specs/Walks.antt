-- A run depth first over any successors: its state, and what it answers. `begins s e` and `next s e` are the first and all successors of e.
use Rattle.std.specs.Prelude.{◌≡◌, ℕ, suc, ◌<◌, ◌≤◌, List, [], ◌∷◌, ◌++◌, length, All, Contains, Bool, true, false, Option, Some, None, Result, Ok, Err, slice_index}
use Rattle.mau_strat.specs.declared.walk.Open.{Open}
use Rattle.mau_strat.specs.declared.walk.WalkEnd.{WalkEnd}
use Rattle.mau_strat.specs.declared.walk.WalkEnd.TheVariants.{TooMany, Ended, NoMemory}
use Rattle.mau_evaluation.specs.Reach.{At, IsClosedAt, IsClosed, IsNextEntry, IsAsked, Reached}
use Rattle.mau_strat.specs.Traces.{IsWay}

module _ (Begins Next : ℕ → List ℕ → Type 0) where
  -- so many successors of the entry at this place were given, and all are listed
  pub record IsGiven (seen : List ℕ) (entry at : ℕ) : Type 0 where
    pub stands : entry < length seen
    pub given : List ℕ
    pub begins : Begins (slice_index seen entry) given
    pub count : length given ≡ at
    pub listed : All (Contains seen) given

  -- each entry from place low up to high has all its successors listed
  abbrev pub ClosedFrom : List ℕ → ℕ → ℕ → Type 0
  ClosedFrom seen low high = (i d : ℕ) → low ≤ i → i < high → At seen i d → IsClosedAt Begins Next seen d

  -- from place low up to high each entry that isn't open has all its successors listed; the latest open entry stands last
  abbrev pub AreOpen : List ℕ → ℕ → List Open → ℕ → Type 0
  AreOpen seen low [] high = ClosedFrom seen low high
  AreOpen seen low (o ∷ os) high = ClosedFrom seen low o.entry × IsGiven seen o.entry o.at × AreOpen seen (suc o.entry) os high

  -- the places of the entries from which those behind the start were entered, as a run that reaches the list enters them
  pub data AreParents (start : ℕ) : List ℕ → List ℕ → Type 0 where
    no_parents : AreParents start (start ∷ []) []
    one_more : (seen parents : List ℕ) (c : ℕ) → AreParents start seen parents → (n : IsNextEntry Begins Next seen c) → AreParents start (seen ++ c ∷ []) (parents ++ n.from ∷ [])

  -- what is listed is a list that a run from its first entry reaches, and each entry that isn't open has all its successors listed
  pub record IsRun (seen parents : List ℕ) (stack : List Open) : Type 0 where
    pub reached : Reached Begins Next (slice_index seen 0) seen
    pub are_parents : AreParents (slice_index seen 0) seen parents
    pub are_open : AreOpen seen 0 stack (length seen)

  -- d is the successor of c behind some others
  abbrev pub IsSuccessor : ℕ → ℕ → Type 0
  IsSuccessor c d = (given : List ℕ) × Begins c (given ++ d ∷ [])

  -- each is a successor of the one before, from c on, and the last one is d
  abbrev pub IsPath : ℕ → List ℕ → ℕ → Type 0
  IsPath c [] d = c ≡ d
  IsPath c (x ∷ xs) d = IsSuccessor c x × IsPath x xs d

  -- The way to the entry that is listed last: from the start each was entered from the one before, so it is a successor of it.
  pub record IsWayTo (seen parents way : List ℕ) (c : ℕ) : Type 0 where
    pub entered : IsWay seen parents 0 way
    pub rest : List ℕ
    pub is : way ≡ slice_index seen 0 ∷ rest
    pub path : IsPath (slice_index seen 0) rest c

  -- where there is a next solution, the way to it
  abbrev pub WayIs : {E : Type 0} → List ℕ → List ℕ → List ℕ → Result (Option ℕ) E → Type 0
  WayIs seen parents way (Ok (Some c)) = IsWayTo seen parents way c
  WayIs seen parents way (Ok None) = way ≡ []
  WayIs seen parents way (Err e) = way ≡ []

  -- none of these is a solution
  abbrev pub AllNot : (ℕ → Bool) → List ℕ → Type 0
  AllNot solves xs = All (λ c. solves c ≡ false) xs

  -- The next solution is the entry listed last, and none that was listed before it, behind the old ones, is one. Where there is none, all successors of all
  -- entries are listed.
  abbrev pub AnswerIs : (ℕ → Bool) → List ℕ → List ℕ → Option ℕ → Type 0
  AnswerIs solves old new None = (more : List ℕ) × (new ≡ old ++ more) × AllNot solves more × IsClosed Begins Next new
  AnswerIs solves old new (Some c) = (more : List ℕ) × (new ≡ (old ++ more) ++ c ∷ []) × AllNot solves more × (solves c ≡ true)

  module _ {C : Type 0} (due : ℕ → List ℕ → C → Type 0) where
    -- too many: there is a next entry, and no place for it; ended: the next successor of the latest open entry can't be had, for this cause
    abbrev pub EndIs : ℕ → List ℕ → WalkEnd C → Type 0
    EndIs limit seen TooMany = (limit ≤ length seen) × ((c : ℕ) × IsNextEntry Begins Next seen c)
    EndIs limit seen (Ended cause) = (j : ℕ) × (e : ℕ) × (given : List ℕ) × IsAsked Begins Next seen j e given × due e given cause
    EndIs limit seen NoMemory = Unit {0}

    -- the end comes before another solution is listed
    abbrev pub EndAfter : (ℕ → Bool) → ℕ → List ℕ → List ℕ → WalkEnd C → Type 0
    EndAfter solves limit old new e = (more : List ℕ) × (new ≡ old ++ more) × AllNot solves more × EndIs limit new e
