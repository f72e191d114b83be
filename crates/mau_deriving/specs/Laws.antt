-- What is proved of derived sorts. Each is proved: a public function of the module `laws` has it for its contract.
use Rattle.std.specs.Prelude.{◌≡◌, ◌↔◌, ◌≤◌, ◌||◌, ℕ, suc, List, [], ◌∷◌, ◌++◌, Bool, false, Option, Some, length, slice_get}
use Rattle.mau_terms.specs.Tree.{Tree, Trees, apply, no_trees, list_of}
use Rattle.mau_terms.specs.Norm.{norm}
use Rattle.mau_terms.specs.Bare.{IsBare}
use Rattle.mau_terms.specs.Reading.{reading}
use Rattle.mau_terms.specs.Finite.{IsIn}
use Rattle.mau_poset.specs.Order.{Hierarchy, IsAtOrBelow}
use Rattle.mau_formula.specs.Operator.{Operator}
use Rattle.mau_store.specs.Node.{Node, AreNodes}
use Rattle.mau_store.specs.Trees.{tree_at}
use Rattle.mau_sorts.specs.HasSort.{Known}
use Rattle.mau_sorts.specs.Table.{Table, IsSettled, IsReady, IsKnownOf, AreEntries, AreOver, KeepsEntries, Settles}
use Rattle.mau_listing.specs.Asked.{IsTreeSettled}
use Rattle.mau_sigcheck.specs.Built.{IsBuiltAndAccepted}
use Rattle.mau_program.specs.declared.program.Program as Typed
use Rattle.mau_evaluation.specs.Run.{Outcome}
use Rattle.mau_evaluation.specs.Program.{Membership, Program}
use Rattle.mau_evaluation.specs.Evaluation.{Binding, sizes, sorts_in, levels, settle}
use Rattle.mau_evaluation.specs.HasSort.{HasHeads}
use Rattle.mau_api.specs.Programs.{program_over}
use Rattle.mau_api.specs.Meanings.{meanings_by}
use Rattle.mau_api.specs.Answers.{IsDerivedTable}
use Rattle.mau_api.specs.Terms.{IsNormalBare}
use Rattle.mau_deriving.specs.Known.{IsKnownFrom, EndsWith, AreKnownFrom}
use Rattle.mau_deriving.specs.Answered.{WasAnswered}
use Rattle.mau_deriving.specs.Given.{asks_by, sorts_on, HaveGiven, GiveJust}
use Rattle.mau_deriving.specs.Derivations.{AreQuestions, AreOpen, found_after, IsDeriving}

-- ---- the steps of a derivation

-- it begins with what the first membership asks, and nothing is found
abbrev pub DerivationsBegin : Type 0
DerivationsBegin =
    (P : Program) (B f : ℕ) (ts : Trees) (h : Hierarchy) (qs : List Binding) → ((m : Membership) → slice_get P.memberships 0 ≡ Some m → AreOpen P B f ts m qs) →
    IsDeriving P B f ts h 0 0 qs false []

-- with the answer to a condition it goes on
abbrev pub AnswersGoOn : Type 0
AnswersGoOn =
    (P : Program) (B f : ℕ) (ts : Trees) (h : Hierarchy) (at asked : ℕ) (qs : List Binding) (was : Bool) (found : List ℕ) → IsDeriving P B f ts h at asked qs was found →
    (m : Membership) → slice_get P.memberships at ≡ Some m → (σ : Binding) → slice_get qs asked ≡ Some σ → (b : Bool) → WasAnswered P B m.cond σ b →
    IsDeriving P B f ts h at (suc asked) qs (was || b) found

-- where all that a membership asks was answered, it goes on with what the next one asks, and with one sort more where this one holds
abbrev pub MembershipsGoOn : Type 0
MembershipsGoOn =
    (P : Program) (B f : ℕ) (ts : Trees) (h : Hierarchy) (at : ℕ) (qs : List Binding) (was : Bool) (found : List ℕ) → IsDeriving P B f ts h at (length qs) qs was found →
    (m : Membership) → slice_get P.memberships at ≡ Some m → ((r : ℕ) → IsIn r (P.above m.sort) ↔ IsAtOrBelow h m.sort r) →
    (next : List Binding) → ((n : Membership) → slice_get P.memberships (suc at) ≡ Some n → AreOpen P B f ts n next) →
    IsDeriving P B f ts h (suc at) 0 next false (found_after was found m.sort)

-- behind the last membership all is found that memberships give
abbrev pub DerivationsFinish : Type 0
DerivationsFinish =
    (P : Program) (B f : ℕ) (ts : Trees) (h : Hierarchy) (at asked : ℕ) (qs : List Binding) (was : Bool) (found : List ℕ) → IsDeriving P B f ts h at asked qs was found →
    length P.memberships ≤ at → HaveGiven P B h f ts found

-- where a condition ends that is asked, the sorts of the term end so too
abbrev pub ConditionsEndSorts : Type 0
ConditionsEndSorts =
    (P : Program) (B f : ℕ) (ts : Trees) (h : Hierarchy) (at asked : ℕ) (qs : List Binding) (was : Bool) (found : List ℕ) → IsDeriving P B f ts h at asked qs was found →
    (m : Membership) → slice_get P.memberships at ≡ Some m → (σ : Binding) → slice_get qs asked ≡ Some σ →
    (args : List (List ℕ)) → AreKnownFrom (λ j. sorts_in P B (asks_by P B j) (sizes ts)) (list_of ts) args →
    EndsWith (λ j. sorts_on P B j (apply f ts)) (λ j. asks_by P B j m.cond σ B)

-- ---- constants

-- of a constant a membership asks its condition once, without any values, where the normal form of its head is the constant
abbrev pub ConstantsAskOnce : Type 0
ConstantsAskOnce =
    (P : Program) → HasHeads P → (m : Membership) → IsIn m P.memberships → (c : ℕ) → norm P.sign.theory (apply c no_trees) ≡ apply c no_trees →
    IsBare P.sign (reading P.sign.theory (apply c no_trees)) → (B : ℕ) →
    (norm P.sign.theory m.left ≡ apply c no_trees → AreQuestions P B c no_trees m ([] ∷ [])) ×
    ((norm P.sign.theory m.left ≡ apply c no_trees → ⊥) → AreQuestions P B c no_trees m [])

-- ---- entries

-- A term whose arguments are settled gets the sorts that declarations give, and those that memberships give: the table is still an evaluator's.
abbrev pub EntriesAreDerived : Type 0
EntriesAreDerived =
    (p : Typed.Program) (hooks : List Operator) (limit : ℕ) (remembers : Bool) → HasHeads (program_over p hooks) → IsBuiltAndAccepted p.sig →
    (nodes : List Node) → AreNodes nodes → (old : Table) → IsDerivedTable (meanings_by p hooks limit remembers) nodes old →
    (i : ℕ) → IsReady p.sig nodes old i → ¬ IsSettled old i → IsNormalBare p.sig (tree_at nodes i) → (more : List ℕ) →
    (new : Table) → KeepsEntries old new → Settles old new i more → AreOver p.sig.hierarchy new →
    ((k : Known) → AreEntries p.sig k nodes old → IsKnownOf k (tree_at nodes i) more → AreEntries p.sig k nodes new) →
    GiveJust (program_over p hooks) limit p.sig.hierarchy (tree_at nodes i) more →
    IsDerivedTable (meanings_by p hooks limit remembers) nodes new

-- ---- what is settled before

-- where the sorts of an argument end, and those of the arguments before it are known, the sorts of the term end so too
abbrev pub ArgumentsEndSorts : Type 0
ArgumentsEndSorts =
    (P : Program) → HasHeads P → (B f : ℕ) (ts : Trees) (us : List Tree) (u : Tree) (rest : List Tree) → list_of ts ≡ us ++ u ∷ rest →
    (sss : List (List ℕ)) → AreKnownFrom (sorts_on P B) us sss → (g : ℕ → Outcome (Option Binding)) → EndsWith (λ j. sorts_on P B j u) g →
    EndsWith (λ j. sorts_on P B j (apply f ts)) g

-- the sorts of a settled term are known
abbrev pub SettledAreKnown : Type 0
SettledAreKnown =
    (p : Typed.Program) (hooks : List Operator) (limit : ℕ) (remembers : Bool) → HasHeads (program_over p hooks) → IsBuiltAndAccepted p.sig →
    (nodes : List Node) (table : Table) → IsDerivedTable (meanings_by p hooks limit remembers) nodes table →
    (t : Tree) → IsNormalBare p.sig t → IsTreeSettled nodes table t → (ss : List ℕ) × IsKnownFrom (λ j. sorts_on (program_over p hooks) limit j t) ss

-- where the sorts of an identity end, and those of the identities before it are known, settling ends so too
abbrev pub IdentitiesEndSettling : Type 0
IdentitiesEndSettling =
    (P : Program) (B : ℕ) (us : List Tree) (u : Tree) (rest : List Tree) → P.units ≡ us ++ u ∷ rest →
    (sss : List (List ℕ)) → AreKnownFrom (sorts_on P B) us sss → (g : ℕ → Outcome (Option Binding)) → EndsWith (λ j. sorts_on P B j u) g →
    (t : Tree) → EndsWith (λ j. settle P (levels P B j) (levels P B (suc j)).sorts t) g

-- where those of all identities are known, settling ends where the sorts of the term end
abbrev pub SortsEndSettling : Type 0
SortsEndSettling =
    (P : Program) (B : ℕ) (sss : List (List ℕ)) → AreKnownFrom (sorts_on P B) P.units sss →
    (g : ℕ → Outcome (Option Binding)) (t : Tree) → EndsWith (λ j. sorts_on P B j t) g → EndsWith (λ j. settle P (levels P B j) (levels P B (suc j)).sorts t) g

-- and is known where they are known
abbrev pub SettlingIsKnown : Type 0
SettlingIsKnown =
    (P : Program) (B : ℕ) (sss : List (List ℕ)) → AreKnownFrom (sorts_on P B) P.units sss →
    (t : Tree) (ss : List ℕ) → IsKnownFrom (λ j. sorts_on P B j t) ss → IsKnownFrom (λ j. settle P (levels P B j) (levels P B (suc j)).sorts t) ss
