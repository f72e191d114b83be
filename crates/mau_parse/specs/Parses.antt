-- The trees of some tokens, by their numbers in a store.
use Rattle.std.specs.Prelude.{◌≡◌, ℕ, ◌<◌, List, [], ◌∷◌, length}
use Rattle.mau_terms.specs.Tree.{Tree}
use Rattle.mau_terms.specs.declared.ids.TermId.{TermId}
use Rattle.mau_grammar.specs.Grammar.{GrammarOf}
use Rattle.mau_chart.specs.Nodes.{tree_at, trees_at}
use Rattle.mau_chart.specs.declared.reading.Forest.{Forest}
use Rattle.mau_chart.specs.declared.reading.Forest.TheVariants.{Nothing as NoReading, One as OneReading, Two as TwoReadings}
use Rattle.mau_parse.specs.declared.goals.Goal.{Goal}
use Rattle.mau_parse.specs.declared.trees.Parses.{Parses}
use Rattle.mau_parse.specs.declared.trees.Parses.TheVariants.{Nothing, One, Two}
use Rattle.mau_parse.specs.Goal.{IsTree, IsOnlyTree, AreTwoTrees}

-- none, one alone, or two that differ; ts are the trees of the store
abbrev pub AreParses : GrammarOf → List (List ℕ) → Goal → List Tree → Parses → Type 0
AreParses g ws goal ts Nothing = (t : Tree) → IsTree g ws goal t → ⊥
AreParses g ws goal ts (One i) = (i.0 < length ts) × IsOnlyTree g ws goal (tree_at ts i.0)
AreParses g ws goal ts (Two i j) = (i.0 < length ts) × (j.0 < length ts) × AreTwoTrees g ws goal (tree_at ts i.0) (tree_at ts j.0)

-- there is one number, and its tree is in the store
pub record IsSingle (ts : List Tree) (ids : List TermId) : Type 0 where
  pub one : length ids ≡ 1
  pub below : (i : TermId) → ids ≡ i ∷ [] → i.0 < length ts

-- each reading is one tree
abbrev pub AreSingle : List Tree → Forest → Type 0
AreSingle ts NoReading = Unit {0}
AreSingle ts (OneReading a) = IsSingle ts a.items
AreSingle ts (TwoReadings a b) = IsSingle ts a.items × IsSingle ts b.items

-- i is the number of the one tree
pub record IsNumberOf (ts : List Tree) (ids : List TermId) (i : TermId) : Type 0 where
  pub below : i.0 < length ts
  pub tree : trees_at ts ids ≡ tree_at ts i.0 ∷ []

-- the numbers of the readings
abbrev pub AreNumbersOf : List Tree → Forest → Parses → Type 0
AreNumbersOf ts NoReading Nothing = Unit {0}
AreNumbersOf ts (OneReading a) (One i) = IsNumberOf ts a.items i
AreNumbersOf ts (TwoReadings a b) (Two i j) = IsNumberOf ts a.items i × IsNumberOf ts b.items j
AreNumbersOf ts _ _ = ⊥
