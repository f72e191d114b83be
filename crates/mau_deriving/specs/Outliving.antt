-- What was derived outlives what others do: a store and a table that grow, and larger limits. Each is proved: a public function of the module `laws` has it
-- for its contract.
use Rattle.std.specs.Prelude.{ℕ, ◌≤◌, List, Bool}
use Rattle.mau_formula.specs.Operator.{Operator}
use Rattle.mau_store.specs.Node.{Node, Extends}
use Rattle.mau_sorts.specs.Table.{Table, AreOver, KeepsEntries}
use Rattle.mau_program.specs.declared.program.Program as Typed
use Rattle.mau_evaluation.specs.Program.{Fragment, Program}
use Rattle.mau_evaluation.specs.Evaluation.{Binding}
use Rattle.mau_api.specs.Meanings.{meanings_by}
use Rattle.mau_api.specs.Answers.{IsDerivedTable}
use Rattle.mau_deriving.specs.Answered.{WasAnswered}
use Rattle.mau_deriving.specs.Asking.{Stands, Derives}
use Rattle.mau_deriving.specs.declared.derivation.Deriving.{Deriving}

-- a derivation stands where the store and the table have grown
abbrev pub StandingOutlives : Type 0
StandingOutlives =
    (p : Typed.Program) (old new : List Node) → Extends old new → (before after : Table) → KeepsEntries before after → AreOver p.sig.hierarchy after →
    (d : Deriving) → Stands p old before d → Stands p new after d

-- and derives what it derived
abbrev pub DerivationsOutlive : Type 0
DerivationsOutlive =
    (p : Typed.Program) (hooks : List Operator) (limit : ℕ) (old new : List Node) → Extends old new → (table : Table) (d : Deriving) → Stands p old table d →
    Derives p hooks limit old d → Derives p hooks limit new d

-- what was answered is answered so with a larger budget of each condition
abbrev pub AnswersOutlive : Type 0
AnswersOutlive =
    (P : Program) (B B' : ℕ) → B ≤ B' → (c : List Fragment) (σ : Binding) (holds : Bool) → WasAnswered P B c σ holds → WasAnswered P B' c σ holds

-- an evaluator's table is one with a larger budget of each condition
abbrev pub EntriesOutlive : Type 0
EntriesOutlive =
    (p : Typed.Program) (hooks : List Operator) (limit larger : ℕ) (remembers : Bool) → limit ≤ larger → (nodes : List Node) (table : Table) →
    IsDerivedTable (meanings_by p hooks limit remembers) nodes table → IsDerivedTable (meanings_by p hooks larger remembers) nodes table
