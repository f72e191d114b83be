-- What is told of the readings of a whole text.
use Rattle.std.specs.Prelude.{◌≡◌, ◌≢◌, ℕ, ◌≤◌, ◌<◌, List, Some}
use Rattle.std.specs.List.{slice_get}
use Rattle.mau_terms.specs.Tree.{Tree}
use Rattle.mau_chart.specs.declared.grammar.Production.{Production}
use Rattle.mau_chart.specs.declared.grammar.Leaf.{Leaf}
use Rattle.mau_chart.specs.declared.grammar.Item.{Item}
use Rattle.mau_chart.specs.declared.grammar.Item.TheVariants.{Whole, Part}
use Rattle.mau_chart.specs.declared.reading.Answer.{Answer}
use Rattle.mau_chart.specs.declared.reading.Answer.TheVariants.{Nothing, One, Two}
use Rattle.mau_chart.specs.Reads.{Reads}
use Rattle.mau_chart.specs.Chart.{Edge}

abbrev pub IsGoal : ℕ → ℕ → ℕ → Item → ℕ → Type 0
IsGoal low high n (Whole k q) e = (low ≤ k) × (k < high) × (e ≡ n)
IsGoal low high n (Part k d) e = ⊥

abbrev pub GoalAt : ℕ → ℕ → ℕ → (ℕ → List Edge) → ℕ → List Tree → Type 0
GoalAt low high n rows k ts = (f : Edge) × (slice_get (rows 0) k ≡ Some f) × IsGoal low high n f.item f.end × (f.trees ≡ ts)

-- of the first m facts of the first row
abbrev pub Scanned : ℕ → ℕ → ℕ → (ℕ → List Edge) → ℕ → Answer → Type 0
Scanned low high n rows m Nothing = (k : ℕ) (ts : List Tree) → k < m → GoalAt low high n rows k ts → ⊥
Scanned low high n rows m (One j) = (us : List Tree) × GoalAt low high n rows j us × ((k : ℕ) (ts : List Tree) → k < m → GoalAt low high n rows k ts → ts ≡ us)
Scanned low high n rows m (Two j k) = (us vs : List Tree) × GoalAt low high n rows j us × GoalAt low high n rows k vs × (us ≢ vs)

-- the text from 0 to n is of one of the kinds
abbrev pub ReadsAs : List Production → List Leaf → ℕ → ℕ → ℕ → List Tree → Type 0
ReadsAs ps ls n low high ts = (k q : ℕ) × (low ≤ k) × (k < high) × Reads ps ls k q 0 n ts

-- no reading, exactly one, or two that differ
abbrev pub IsExact : List Production → List Leaf → ℕ → ℕ → ℕ → (ℕ → List Edge) → Answer → Type 0
IsExact ps ls n low high rows Nothing = (ts : List Tree) → ReadsAs ps ls n low high ts → ⊥
IsExact ps ls n low high rows (One j) = (us : List Tree) × GoalAt low high n rows j us × ReadsAs ps ls n low high us × ((ts : List Tree) → ReadsAs ps ls n low high ts → ts ≡ us)
IsExact ps ls n low high rows (Two j k) = (us vs : List Tree) × GoalAt low high n rows j us × GoalAt low high n rows k vs × ReadsAs ps ls n low high us × ReadsAs ps ls n low high vs × (us ≢ vs)
