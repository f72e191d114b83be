-- A table of what was found: for each start, the items that were found there, with their end and trees.
use Rattle.std.specs.Prelude.{◌≡◌, ◌≢◌, ℕ, zero, suc, Bool, true, false, ◌≤◌, ◌<◌, List, [], ◌∷◌, ◌++◌, length, get_or, drop, Option, Some, ◌⊎◌}
use Rattle.std.specs.List.{slice_get}
use Rattle.mau_terms.specs.Tree.{Tree}
use Rattle.mau_terms.specs.declared.ids.OpId.{OpId}
use Rattle.mau_chart.specs.declared.grammar.Piece.{Piece}
use Rattle.mau_chart.specs.declared.grammar.Production.{Production}
use Rattle.mau_chart.specs.declared.grammar.Item.{Item}
use Rattle.mau_chart.specs.declared.grammar.Item.TheVariants.{Whole, Part}
use Rattle.mau_chart.specs.declared.grammar.Leaf.{Leaf}
use Rattle.mau_chart.specs.declared.places.Place.{Place}
use Rattle.mau_chart.specs.Reads.{said_trees, made, Reads, Spells}

pub record Edge : Type 0 where
  pub item : Item
  pub end : ℕ
  pub trees : List Tree

abbrev pub edge : Item → ℕ → List Tree → Edge
edge it e ts = record { item = it; end = e; trees = ts }

abbrev pub Has : (ℕ → List Edge) → ℕ → Item → ℕ → List Tree → Type 0
Has rows i it e ts = (k : ℕ) × (slice_get (rows i) k ≡ Some (edge it e ts))

-- there are two different ones
abbrev pub Full : (ℕ → List Edge) → ℕ → Item → ℕ → Type 0
Full rows i it e = (ts us : List Tree) × Has rows i it e ts × Has rows i it e us × (ts ≢ us)

-- something of this kind may end at i
abbrev pub CanEnd : List Production → List Leaf → ℕ → ℕ → Type 0
CanEnd ps ls k i = (q h : ℕ) × (ts : List Tree) × Reads ps ls k q h i ts

abbrev pub IsWanted : List Production → List Leaf → Production → ℕ → ℕ → Type 0
IsWanted ps ls p zero i = Unit {0}
IsWanted ps ls p (suc d) i = (c : Piece) × (slice_get p.pieces.items d ≡ Some c) × CanEnd ps ls c.kind i

-- an item that may be of use at i: the piece before it can end there
abbrev pub Wants : List Production → List Leaf → ℕ → Item → Type 0
Wants ps ls i (Whole k q) = Unit {0}
Wants ps ls i (Part k d) = (p : Production) → slice_get ps k ≡ Some p → IsWanted ps ls p d i

-- where the mask has false, nothing of that kind ends at i
abbrev pub IsMask : List Production → List Leaf → ℕ → List Bool → Type 0
IsMask ps ls i mask = (k : ℕ) → get_or mask k true ≡ false → CanEnd ps ls k i → ⊥

-- the mask is not against the piece before a part
abbrev pub IsAllowed : List Production → List Bool → Item → Type 0
IsAllowed ps mask (Whole k q) = Unit {0}
IsAllowed ps mask (Part k zero) = Unit {0}
IsAllowed ps mask (Part k (suc d)) = (p : Production) (c : Piece) → slice_get ps k ≡ Some p → slice_get p.pieces.items d ≡ Some c → get_or mask c.kind true ≡ true

-- this one is there, or two others are
abbrev pub Covers : (ℕ → List Edge) → ℕ → Item → ℕ → List Tree → Type 0
Covers rows i it e ts = Has rows i it e ts ⊎ Full rows i it e

-- what can be made of what is there is there, for starts from i on
pub record Closed (ps : List Production) (ls : List Leaf) (n : ℕ) (rows : (ℕ → List Edge)) (i : ℕ) : Type 0 where
  pub leaves : (k : ℕ) (l : Leaf) → slice_get ls k ≡ Some l → i ≤ l.start → Covers rows l.start (Whole l.kind l.level) l.end (said_trees l.said)
  pub ends : (k : ℕ) (p : Production) (j : ℕ) → slice_get ps k ≡ Some p → i ≤ j → j ≤ n → Wants ps ls j (Part k (length p.pieces.items)) → Covers rows j (Part k (length p.pieces.items)) j []
  pub steps : (k d : ℕ) (p : Production) (c : Piece) (q h m j : ℕ) (ts us : List Tree) → i ≤ h → slice_get ps k ≡ Some p → slice_get p.pieces.items d ≡ Some c → q ≤ c.upto → Wants ps ls h (Part k d) → Has rows h (Whole c.kind q) m ts → Has rows m (Part k (suc d)) j us → Covers rows h (Part k d) j (ts ++ us)
  pub wholes : (k : ℕ) (p : Production) (h j : ℕ) (ts : List Tree) → i ≤ h → slice_get ps k ≡ Some p → Has rows h (Part k 0) j ts → Covers rows h (Whole p.kind p.level) j (made p.op ts)

-- what is there is right
abbrev pub IsRight : List Production → List Leaf → ℕ → Item → ℕ → List Tree → Type 0
IsRight ps ls i (Whole k q) j ts = Reads ps ls k q i j ts
IsRight ps ls i (Part k d) j ts = (p : Production) → slice_get ps k ≡ Some p → Spells ps ls (drop d p.pieces.items) i j ts

abbrev pub IsSound : List Production → List Leaf → ℕ → Edge → Type 0
IsSound ps ls i f = IsRight ps ls i f.item f.end f.trees

abbrev pub AreSound : List Production → List Leaf → (ℕ → List Edge) → Type 0
AreSound ps ls rows = (i k : ℕ) (f : Edge) → slice_get (rows i) k ≡ Some f → IsSound ps ls i f

pub record IsLeaf (n : ℕ) (l : Leaf) : Type 0 where
  pub forth : l.start < l.end
  pub within : l.end ≤ n

abbrev pub AreLeaves : List Leaf → ℕ → Type 0
AreLeaves ls n = (k : ℕ) (l : Leaf) → slice_get ls k ≡ Some l → IsLeaf n l

-- each production has a piece
abbrev pub AreForms : List Production → Type 0
AreForms ps = (k : ℕ) (p : Production) → slice_get ps k ≡ Some p → p.pieces.items ≢ []

-- one more was offered to the row i: it was covered already or put at the end
pub record Offered (old new : ℕ → List Edge) (i : ℕ) (f : Edge) : Type 0 where
  pub others : (m : ℕ) → m ≢ i → new m ≡ old m
  pub more : (new i ≡ old i) ⊎ (new i ≡ old i ++ f ∷ [])
  pub covers : Covers new i f.item f.end f.trees

-- the row i has more at its end, and the others are as they were
pub record Grows (old new : ℕ → List Edge) (i : ℕ) : Type 0 where
  pub others : (m : ℕ) → m ≢ i → new m ≡ old m
  pub more : (gs : List Edge) × (new i ≡ old i ++ gs)

-- the table is as it was
abbrev pub IsSame : (ℕ → List Edge) → (ℕ → List Edge) → Type 0
IsSame old new = (m : ℕ) → new m ≡ old m

abbrev pub Joined : (ℕ → List Edge) → (ℕ → List Edge) → ℕ → ℕ → ℕ → ℕ → Item → Type 0
Joined old new i k m x it = (f g : Edge) → slice_get (old i) k ≡ Some f → slice_get (old m) x ≡ Some g → Offered old new i (edge it g.end (f.trees ++ g.trees))

abbrev pub Lifted : (ℕ → List Edge) → (ℕ → List Edge) → ℕ → ℕ → Item → Option OpId → Type 0
Lifted old new i k it o = (f : Edge) → slice_get (old i) k ≡ Some f → Offered old new i (edge it f.end (made o f.trees))

-- before a part of a production stands its piece: a part that has one piece more
pub record Steps (ps : List Production) (a b to : Item) : Type 0 where
  pub number : ℕ
  pub dot : ℕ
  pub level : ℕ
  pub form : Production
  pub piece : Piece
  pub whole : a ≡ Whole piece.kind level
  pub part : b ≡ Part number (suc dot)
  pub longer : to ≡ Part number dot
  pub its : slice_get ps number ≡ Some form
  pub there : slice_get form.pieces.items dot ≡ Some piece
  pub upto : level ≤ piece.upto

-- all pieces of a production are there
pub record Lifts (ps : List Production) (a to : Item) (o : Option OpId) : Type 0 where
  pub number : ℕ
  pub form : Production
  pub part : a ≡ Part number 0
  pub its : slice_get ps number ≡ Some form
  pub whole : to ≡ Whole form.kind form.level
  pub op : o ≡ form.op

-- what comes of the fact k in row i is there
pub record Processed (ps : List Production) (ls : List Leaf) (rows : ℕ → List Edge) (i k : ℕ) : Type 0 where
  pub steps : (f g : Edge) (x : ℕ) (to : Item) → slice_get (rows i) k ≡ Some f → slice_get (rows f.end) x ≡ Some g → Steps ps f.item g.item to → Wants ps ls i to → Covers rows i to g.end (f.trees ++ g.trees)
  pub wholes : (f : Edge) (to : Item) (o : Option OpId) → slice_get (rows i) k ≡ Some f → Lifts ps f.item to o → Covers rows i to f.end (made o f.trees)

-- at k in row i stands an item with this end
abbrev pub Stands : (ℕ → List Edge) → ℕ → ℕ → Item → ℕ → Type 0
Stands rows i k it e = (ts : List Tree) × (slice_get (rows i) k ≡ Some (edge it e ts))

-- what comes of the whole of the fact k in row i is there
pub record Completed (ps : List Production) (old new : ℕ → List Edge) (i k : ℕ) : Type 0 where
  pub grows : Grows old new i
  pub sound : (ls : List Leaf) → AreSound ps ls old → AreSound ps ls new
  pub covers : (f : Edge) (to : Item) (o : Option OpId) → slice_get (old i) k ≡ Some f → Lifts ps f.item to o → Covers new i to f.end (made o f.trees)

-- the fact k of the row i was tried before those facts of the row m of which P holds, by their places
pub record Combined (ps : List Production) (ls : List Leaf) (old new : ℕ → List Edge) (i k m : ℕ) (P : ℕ → Edge → Type 0) : Type 0 where
  pub grows : Grows old new i
  pub sound : (f : Edge) → slice_get (old i) k ≡ Some f → f.end ≡ m → AreSound ps ls old → AreSound ps ls new
  pub covers : (x : ℕ) (f g : Edge) (to : Item) → slice_get (old i) k ≡ Some f → slice_get (old m) x ≡ Some g → P x g → Steps ps f.item g.item to → Wants ps ls i to → Covers new i to g.end (f.trees ++ g.trees)

-- the place x, where this item stands
abbrev pub IsOne : ℕ → Item → ℕ → Edge → Type 0
IsOne x part y g = (y ≡ x) × (g.item ≡ part)

-- the place of a fact, with its end
abbrev pub place_of : ℕ → Edge → Place
place_of y g = record { at = y; end = g.end }

-- one of the first n of these places, where this item stands
abbrev pub IsAmong : List Place → Item → ℕ → ℕ → Edge → Type 0
IsAmong parts part n y g = ((z : ℕ) × (z < n) × (slice_get parts z ≡ Some (place_of y g))) × (g.item ≡ part)

-- whatever the fact k of the row i is, it goes before the part only as `to`
abbrev pub StepsOnly : List Production → List Leaf → (ℕ → List Edge) → ℕ → ℕ → Item → Item → Type 0
StepsOnly ps ls rows i k part it = (f : Edge) (to : Item) → slice_get (rows i) k ≡ Some f → Steps ps f.item part to → Wants ps ls i to → it ≡ to

-- the first facts of the row i are processed, up to the number n
abbrev pub IsDone : List Production → List Leaf → (ℕ → List Edge) → ℕ → ℕ → Type 0
IsDone ps ls rows i n = (k : ℕ) → k < n → Processed ps ls rows i k

-- the leaves that begin at i were put, up to the number n
pub record Begun (ls : List Leaf) (old new : ℕ → List Edge) (i n : ℕ) : Type 0 where
  pub grows : Grows old new i
  pub sound : (ps : List Production) → AreSound ps ls old → AreSound ps ls new
  pub covers : (k : ℕ) (l : Leaf) → k < n → slice_get ls k ≡ Some l → l.start ≡ i → Covers new i (Whole l.kind l.level) l.end (said_trees l.said)

-- the ends of the productions were put, up to the number n
pub record Ended (ps : List Production) (ls : List Leaf) (old new : ℕ → List Edge) (i n : ℕ) : Type 0 where
  pub grows : Grows old new i
  pub sound : AreSound ps ls old → AreSound ps ls new
  pub covers : (k : ℕ) (p : Production) → k < n → slice_get ps k ≡ Some p → Wants ps ls i (Part k (length p.pieces.items)) → Covers new i (Part k (length p.pieces.items)) i []

-- the row i has all that can be made of what is there
pub record IsRow (ps : List Production) (ls : List Leaf) (rows : ℕ → List Edge) (i : ℕ) : Type 0 where
  pub leaves : (k : ℕ) (l : Leaf) → slice_get ls k ≡ Some l → l.start ≡ i → Covers rows i (Whole l.kind l.level) l.end (said_trees l.said)
  pub ends : (k : ℕ) (p : Production) → slice_get ps k ≡ Some p → Wants ps ls i (Part k (length p.pieces.items)) → Covers rows i (Part k (length p.pieces.items)) i []
  pub done : IsDone ps ls rows i (length (rows i))

abbrev pub IsEmpty : (ℕ → List Edge) → Type 0
IsEmpty rows = (i : ℕ) → rows i ≡ []
