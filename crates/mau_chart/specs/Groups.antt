-- The places of a row, grouped by the items that stand there.
use Rattle.std.specs.Prelude.{◌≡◌, ℕ, zero, suc, ◌-◌, ◌<◌, ◌≤◌, List, [], ◌∷◌, Some, Vec}
use Rattle.std.specs.List.{slice_get}
use Rattle.mau_chart.specs.declared.grammar.Item.{Item}
use Rattle.mau_chart.specs.declared.grammar.Item.TheVariants.{Part}
use Rattle.mau_chart.specs.declared.places.Group.{Group}
use Rattle.mau_chart.specs.declared.places.Place.{Place}
use Rattle.mau_chart.specs.Chart.{Edge, place_of}

-- x is a place of the group w, which is the group of the item
pub record IsPart (gs : List Group) (it : Item) (x : Place) (w z : ℕ) : Type 0 where
  pub group : Group
  pub its : slice_get gs w ≡ Some group
  pub place : slice_get group.parts.items z ≡ Some x
  pub item : group.item ≡ it

-- x is in the group of the item
abbrev pub HasPart : List Group → Item → Place → Type 0
HasPart gs it x = (w z : ℕ) × IsPart gs it x w z

-- the group w is the one of the item
abbrev pub IsPlace : List Group → Item → ℕ → Type 0
IsPlace gs it w = (g : Group) × (slice_get gs w ≡ Some g) × (g.item ≡ it)

-- each part of the row that waits for a piece is in the group of its item, with its end
abbrev pub AreGrouped : (ℕ → List Edge) → ℕ → List Group → Type 0
AreGrouped rows m gs = (x k d : ℕ) (f : Edge) → slice_get (rows m) x ≡ Some f → f.item ≡ Part k (suc d) → HasPart gs f.item (place_of x f)

-- the groups of the r-th row
abbrev pub groups_at : {Z : Type 0} → List (Vec Group Z) → ℕ → List Group
groups_at [] r = []
groups_at (v ∷ vs) zero = v.items
groups_at (v ∷ vs) (suc r) = groups_at vs r

-- the rows behind i, up to n, are grouped; the last comes first
abbrev pub AreIndexed : {Z : Type 0} → (ℕ → List Edge) → ℕ → ℕ → List (Vec Group Z) → Type 0
AreIndexed rows n i index = (m : ℕ) → i < m → m ≤ n → AreGrouped rows m (groups_at index (n - m))

-- a place of one of the first n groups, where the item of the group stands
abbrev pub IsGrouped : List Group → ℕ → ℕ → Edge → Type 0
IsGrouped gs n y g = (w z : ℕ) × (w < n) × IsPart gs g.item (place_of y g) w z
