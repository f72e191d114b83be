-- What is told of the readings of a text, by the numbers of their trees.
use Rattle.std.specs.Prelude.{◌≡◌, ◌≢◌, ℕ, ◌<◌, List, length, Some}
use Rattle.std.specs.List.{slice_get}
use Rattle.mau_terms.specs.Tree.{Tree}
use Rattle.mau_chart.specs.declared.grammar.Production.{Production}
use Rattle.mau_chart.specs.declared.grammar.Leaf.{Leaf}
use Rattle.mau_chart.specs.declared.reading.Answer.{Answer}
use Rattle.mau_chart.specs.declared.reading.Answer.TheVariants.{Nothing, One, Two}
use Rattle.mau_chart.specs.declared.reading.Forest.{Forest}
use Rattle.mau_chart.specs.declared.reading.Forest.TheVariants.{Nothing as NoReading, One as OneReading, Two as TwoReadings}
use Rattle.mau_chart.specs.Chart.{Edge}
use Rattle.mau_chart.specs.Goal.{ReadsAs}
use Rattle.mau_chart.specs.Nodes.{AllBelow, trees_at}

-- no reading in these kinds, exactly one, or two that differ; ts are the trees of the store
abbrev pub IsForest : List Production → List Leaf → ℕ → ℕ → ℕ → List Tree → Forest → Type 0
IsForest ps ls n low high ts NoReading = (us : List Tree) → ReadsAs ps ls n low high us → ⊥
IsForest ps ls n low high ts (OneReading a) =
    AllBelow (length ts) a.items × ReadsAs ps ls n low high (trees_at ts a.items) × ((us : List Tree) → ReadsAs ps ls n low high us → us ≡ trees_at ts a.items)
IsForest ps ls n low high ts (TwoReadings a b) =
    AllBelow (length ts) a.items × AllBelow (length ts) b.items × ReadsAs ps ls n low high (trees_at ts a.items) × ReadsAs ps ls n low high (trees_at ts b.items)
    × (trees_at ts a.items ≢ trees_at ts b.items)

-- the places that an answer names are those of facts of the first row
abbrev pub AreThere : (ℕ → List Edge) → Answer → Type 0
AreThere rows Nothing = Unit {0}
AreThere rows (One j) = j < length (rows 0)
AreThere rows (Two j k) = (j < length (rows 0)) × (k < length (rows 0))

-- the trees of a fact of the first row
abbrev pub AreTreesAt : List Tree → (ℕ → List Edge) → ℕ → List Tree → Type 0
AreTreesAt ts rows k us = (f : Edge) → slice_get (rows 0) k ≡ Some f → us ≡ f.trees

-- the readings are those of the facts that the answer names
abbrev pub IsToldBy : List Tree → (ℕ → List Edge) → Answer → Forest → Type 0
IsToldBy ts rows Nothing NoReading = Unit {0}
IsToldBy ts rows (One j) (OneReading a) = AllBelow (length ts) a.items × AreTreesAt ts rows j (trees_at ts a.items)
IsToldBy ts rows (Two j k) (TwoReadings a b) =
    AllBelow (length ts) a.items × AllBelow (length ts) b.items × AreTreesAt ts rows j (trees_at ts a.items) × AreTreesAt ts rows k (trees_at ts b.items)
IsToldBy ts rows _ _ = ⊥
