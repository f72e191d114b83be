-- What is proved of settling. Each is proved: a public function of the module `laws` has it for its contract.
use Rattle.std.specs.Prelude.{◌≡◌, ◌↔◌, ℕ, suc, List, [], ◌∷◌, All, Bool, true, Option, Some}
use Rattle.mau_terms.specs.Tree.{Tree}
use Rattle.mau_terms.specs.Subst.{Variable}
use Rattle.mau_signature.specs.Signature.{SignatureOf}
use Rattle.mau_formula.specs.Operator.{Operator}
use Rattle.mau_store.specs.Node.{Node, AreNodes, Extends}
use Rattle.mau_store.specs.Trees.{tree_at, trees_at}
use Rattle.mau_sorts.specs.SortSets.{SortsOf, IsIn}
use Rattle.mau_sorts.specs.Table.{Table, entry_at, IsSettled, AreOver, KeepsEntries}
use Rattle.mau_listing.specs.Asked.{IsClosedTable}
use Rattle.mau_sigcheck.specs.Built.{IsBuiltAndAccepted}
use Rattle.mau_program.specs.declared.program.Program as Typed
use Rattle.mau_evaluation.specs.Run.{Outcome}
use Rattle.mau_evaluation.specs.Evaluation.{Binding, has_number, have_sorts, levels, settle}
use Rattle.mau_evaluation.specs.HasSort.{HasHeads, HasSort}
use Rattle.mau_api.specs.Programs.{program_over}
use Rattle.mau_api.specs.Meanings.{meanings_by}
use Rattle.mau_api.specs.Answers.{IsDerivedTable, AreSettled}
use Rattle.mau_api.specs.Terms.{IsNormalBare}
use Rattle.mau_deriving.specs.Known.{IsKnownFrom, EndsWith}
use Rattle.mau_deriving.specs.Given.{sorts_on}
use Rattle.mau_settling.specs.Due.{IsDueIn}
use Rattle.mau_settling.specs.Settlings.{IsSettling, DerivesCurrent}
use Rattle.mau_settling.specs.declared.settling.Settling.{Settling}

-- ---- what is due

-- what is due stays due in a store and a table that grow
abbrev pub DueStays : Type 0
DueStays =
    (old new : List Node) → Extends old new → (before after : Table) → KeepsEntries before after → (i j : ℕ) → IsDueIn old before i j → IsDueIn new after i j

-- where the sorts of a term end that is due, those of the term end so in which it is due
abbrev pub DueEndSorts : Type 0
DueEndSorts =
    (p : Typed.Program) (hooks : List Operator) (limit : ℕ) (remembers : Bool) → HasHeads (program_over p hooks) → IsBuiltAndAccepted p.sig →
    (nodes : List Node) → AreNodes nodes → (table : Table) → IsDerivedTable (meanings_by p hooks limit remembers) nodes table →
    (i j : ℕ) → IsNormalBare p.sig (tree_at nodes i) → IsDueIn nodes table i j → (g : ℕ → Outcome (Option Binding)) →
    EndsWith (λ k. sorts_on (program_over p hooks) limit k (tree_at nodes j)) g → EndsWith (λ k. sorts_on (program_over p hooks) limit k (tree_at nodes i)) g

-- ---- while a condition is solved

-- settling stands where the store and the table have grown
abbrev pub SettlingStays : Type 0
SettlingStays =
    (p : Typed.Program) (old new : List Node) → Extends old new → (before after : Table) → KeepsEntries before after → AreOver p.sig.hierarchy after → IsClosedTable new after →
    (s : Settling) → IsSettling p old before s → IsSettling p new after s

-- and what it derives is derived
abbrev pub DerivingStays : Type 0
DerivingStays =
    (p : Typed.Program) (hooks : List Operator) (limit : ℕ) (old new : List Node) → Extends old new → (table : Table) (s : Settling) → IsSettling p old table s →
    DerivesCurrent p hooks limit old s → DerivesCurrent p hooks limit new s

-- ---- at the end

-- where all is settled, the settling of the term is known
abbrev pub SettledIsKnown : Type 0
SettledIsKnown =
    (p : Typed.Program) (hooks : List Operator) (limit : ℕ) (remembers : Bool) → HasHeads (program_over p hooks) → IsBuiltAndAccepted p.sig →
    (nodes : List Node) (table : Table) → IsDerivedTable (meanings_by p hooks limit remembers) nodes table →
    (t : Tree) → IsNormalBare p.sig t → AreSettled p.sig nodes table t → (ss : List ℕ) ×
    IsKnownFrom (λ j. settle (program_over p hooks) (levels (program_over p hooks) limit j) (levels (program_over p hooks) limit (suc j)).sorts t) ss

-- each sort that an entry tells has a finite derivation: each membership in it has an instance whose values have their sorts by derivations, and
-- whose condition is solved for some limits
abbrev pub EntriesHaveDerivations : Type 0
EntriesHaveDerivations =
    (p : Typed.Program) (hooks : List Operator) (limit : ℕ) (remembers : Bool) (nodes : List Node) (table : Table) →
    IsDerivedTable (meanings_by p hooks limit remembers) nodes table → (i : ℕ) (e : SortsOf) → entry_at table i ≡ Some e →
    IsNormalBare p.sig (tree_at nodes i) → (r : ℕ) → IsIn p.sig.hierarchy e r → HasSort (program_over p hooks) (tree_at nodes i) r

-- ---- as an evaluator asks

-- the entry of the number v has the sort r
abbrev pub EntryHas : SignatureOf → Table → ℕ → ℕ → Type 0
EntryHas s table v r = (e : SortsOf) × (entry_at table v ≡ Some e) × IsIn s.hierarchy e r

-- the entries of values have the sorts of their variables
abbrev pub HaveByEntries : SignatureOf → Table → List Variable → List ℕ → Type 0
HaveByEntries s table [] vs = Unit {0}
HaveByEntries s table (x ∷ xs) [] = ⊥
HaveByEntries s table (x ∷ xs) (v ∷ vs) = EntryHas s table v x.1 × HaveByEntries s table xs vs

-- the sorts of a term that has an entry are known from some number of levels on, and are those of the entry
abbrev pub EntriesAreKnown : Type 0
EntriesAreKnown =
    (p : Typed.Program) (hooks : List Operator) (limit : ℕ) (remembers : Bool) (nodes : List Node) (table : Table) → IsDerivedTable (meanings_by p hooks limit remembers) nodes table →
    (i : ℕ) (e : SortsOf) → entry_at table i ≡ Some e → IsNormalBare p.sig (tree_at nodes i) →
    (ss : List ℕ) × IsKnownFrom (λ k. (levels (program_over p hooks) limit k).sorts (tree_at nodes i)) ss × ((r : ℕ) → IsIn p.sig.hierarchy e r ↔ (has_number ss r ≡ true))

-- whether settled values have the sorts of variables is known, and is so where their entries have them
abbrev pub ValuesAreTested : Type 0
ValuesAreTested =
    (p : Typed.Program) (hooks : List Operator) (limit : ℕ) (remembers : Bool) (nodes : List Node) (table : Table) → IsDerivedTable (meanings_by p hooks limit remembers) nodes table →
    (xs : List Variable) (vs : List ℕ) → All (IsSettled table) vs → All (λ v. IsNormalBare p.sig (tree_at nodes v)) vs →
    (ok : Bool) × IsKnownFrom (λ k. have_sorts (levels (program_over p hooks) limit k).sorts xs (trees_at nodes vs)) ok × ((ok ≡ true) ↔ HaveByEntries p.sig table xs vs)
