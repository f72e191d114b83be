-- The table that a chart stands for.
use Rattle.std.specs.Prelude.{◌≡◌, ◌≢◌, ℕ, zero, suc, List, [], ◌∷◌, ◌++◌, length, map, Some, true}
use Rattle.std.specs.List.{slice_get}
use Rattle.mau_terms.specs.Tree.{Tree}
use Rattle.mau_chart.specs.Nodes.{AllBelow, trees_at}
use Rattle.mau_chart.specs.declared.chart.Fact.{Fact}
use Rattle.mau_chart.specs.declared.chart.Row.{Row}
use Rattle.mau_chart.specs.declared.chart.Chart.{Chart}
use Rattle.mau_chart.specs.declared.grammar.Item.{Item}
use Rattle.mau_chart.specs.Chart.{Edge, edge, Has, Full}

abbrev pub cells : List Row → ℕ → List Fact
cells [] i = []
cells (r ∷ rs) zero = r.facts.items
cells (r ∷ rs) (suc i) = cells rs i

abbrev pub edge_of : List Tree → Fact → Edge
edge_of ts f = edge f.item f.end (trees_at ts f.trees.items)

abbrev pub seen : List Tree → List Row → ℕ → List Edge
seen ts rs i = map (edge_of ts) (cells rs i)

abbrev pub table : Chart → ℕ → List Edge
table c = seen c.store c.rows.items

pub record IsKnown (ts : List Tree) (rs : List Row) (i : ℕ) (f : Fact) : Type 0 where
  pub below : AllBelow (length ts) f.trees.items
  pub second : f.second ≡ true → Full (seen ts rs) i f.item f.end

-- the trees are the store's, and where a second one stands there are two
abbrev pub AreKnown : List Tree → List Row → Type 0
AreKnown ts rs = (i k : ℕ) (f : Fact) → slice_get (cells rs i) k ≡ Some f → IsKnown ts rs i f

abbrev pub IsChart : Chart → Type 0
IsChart c = AreKnown c.store c.rows.items

-- f stands there, and has this item and end
pub record IsThere (fs : List Fact) (f : Fact) (it : Item) (e : ℕ) : Type 0 where
  pub place : (k : ℕ) × (slice_get fs k ≡ Some f)
  pub item : f.item ≡ it
  pub end : f.end ≡ e

-- there is one with other trees
abbrev pub HasOther : (ℕ → List Edge) → ℕ → Item → ℕ → List Tree → Type 0
HasOther rows i it e ts = (us : List Tree) × Has rows i it e us × (us ≢ ts)

-- the fact was put at the end of the row i
pub record Put (old new : List Row) (i : ℕ) (f : Fact) : Type 0 where
  pub rows : length new ≡ length old
  pub others : (m : ℕ) → m ≢ i → cells new m ≡ cells old m
  pub there : cells new i ≡ cells old i ++ f ∷ []
