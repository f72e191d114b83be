-- How far the settling of a term is, and what it asks.
use Rattle.std.specs.Prelude.{◌≡◌, ◌<◌, ℕ, suc, List, [], ◌∷◌, ◌++◌, All, Some, IfSome, drop, length, slice_get, false}
use Rattle.mau_terms.specs.Tree.{Tree}
use Rattle.mau_terms.specs.declared.ids.VarId.{VarId}
use Rattle.mau_terms.specs.declared.ids.TermId.{TermId}
use Rattle.mau_signature.specs.Signature.{SignatureOf}
use Rattle.mau_formula.specs.Operator.{Operator}
use Rattle.mau_store.specs.Node.{Node, AreNodes}
use Rattle.mau_store.specs.Trees.{tree_at, trees_at}
use Rattle.mau_store.specs.View.{numbers}
use Rattle.mau_sorts.specs.Table.{Table, AreOver}
use Rattle.mau_listing.specs.Asked.{IsTreeSettled, IsClosedTable}
use Rattle.mau_sigcheck.specs.Built.{IsBuiltAndAccepted}
use Rattle.mau_program.specs.declared.program.Program as Typed
use Rattle.mau_evaluation.specs.Program.{Membership}
use Rattle.mau_evaluation.specs.Evaluation.{levels, settle}
use Rattle.mau_evaluation.specs.HasSort.{HasHeads}
use Rattle.mau_api.specs.Programs.{program_over, identities_of}
use Rattle.mau_api.specs.Meanings.{meanings_by}
use Rattle.mau_api.specs.Answers.{IsDerivedTable, AreSettled, binding_in}
use Rattle.mau_api.specs.Terms.{IsTerm}
use Rattle.mau_deriving.specs.Known.{EndsWith}
use Rattle.mau_deriving.specs.Given.{asks_by}
use Rattle.mau_deriving.specs.Asking.{Stands, Derives}
use Rattle.mau_deriving.specs.declared.derivation.Deriving.{Deriving}
use Rattle.mau_settling.specs.Due.{IsDueInFirst, IsPlaceInFirst}
use Rattle.mau_settling.specs.declared.settling.Settling.{Settling}
use Rattle.mau_settling.specs.declared.settling.Stage.{Stage}
use Rattle.mau_settling.specs.declared.settling.Stage.TheVariants as What

-- of the identities and then the term t these are left, and what comes before them is settled
pub record AreLeft (s : SignatureOf) (nodes : List Node) (table : Table) (t : ℕ) (left : List ℕ) : Type 0 where
  pub before : List Tree
  pub are : identities_of s ++ tree_at nodes t ∷ [] ≡ before ++ trees_at nodes left
  pub settled : All (IsTreeSettled nodes table) before

-- the numbers that are left
abbrev pub left_of : Settling → List ℕ
left_of s = drop s.at (numbers s.roots.items)

-- a derivation of the sorts of a term that is due
pub record IsDerivingIn (p : Typed.Program) (nodes : List Node) (table : Table) (left : List ℕ) (d : Deriving) : Type 0 where
  pub stands : Stands p nodes table d
  pub due : IsDueInFirst nodes table left d.term.0

-- settling stands in a state: what is left of the identities and the term, where it is in the first of these, and what it derives there
pub record IsSettling (p : Typed.Program) (nodes : List Node) (table : Table) (s : Settling) : Type 0 where
  pub over : AreOver p.sig.hierarchy table
  pub closed : IsClosedTable nodes table
  pub term : IsTerm p.sig nodes s.term.0
  pub roots : All (IsTerm p.sig nodes) (numbers s.roots.items)
  pub left : AreLeft p.sig nodes table s.term.0 (left_of s)
  pub path : All (IsPlaceInFirst nodes table (left_of s)) s.path.items
  pub current : IfSome s.current (IsDerivingIn p nodes table (left_of s))

-- what is derived at the moment is derived
abbrev pub DerivesCurrent : Typed.Program → List Operator → ℕ → List Node → Settling → Type 0
DerivesCurrent p hooks limit nodes s = IfSome s.current (Derives p hooks limit nodes)

-- it is the condition of the membership with the number `at` that is asked for, under the binding b
pub record Asks (s : Settling) (at : ℕ) (b : List (VarId × TermId)) : Type 0 where
  pub derivation : Deriving
  pub is : s.current ≡ Some derivation
  pub at_place : derivation.at ≡ at
  pub question : slice_get derivation.questions.items derivation.asked ≡ Some b

abbrev pub IsAsking : Settling → Type 0
IsAsking s = (at : ℕ) × (b : List (VarId × TermId)) × Asks s at b

-- a condition of one of the program's memberships
abbrev pub IsAskingOf : Typed.Program → Settling → Type 0
IsAskingOf p s = (at : ℕ) × (b : List (VarId × TermId)) × Asks s at b × (at < length p.memberships)

-- what is so behind a step
abbrev pub StageOf : Typed.Program → List Node → Table → Settling → Stage → Type 0
StageOf p nodes table s What.Asks = IsAskingOf p s
StageOf p nodes table s What.GoesOn = Unit {0}
StageOf p nodes table s What.Settled = AreSettled p.sig nodes table (tree_at nodes s.term.0)

-- where the condition of the membership with this number ends under the binding b, the settling of the term t ends so
abbrev pub EndsSettling : Typed.Program → List Operator → ℕ → List Node → ℕ → ℕ → List (VarId × TermId) → Type 0
EndsSettling p hooks limit nodes t at b =
    (m : Membership) → slice_get (program_over p hooks).memberships at ≡ Some m →
    EndsWith (λ j. settle (program_over p hooks) (levels (program_over p hooks) limit j) (levels (program_over p hooks) limit (suc j)).sorts (tree_at nodes t))
    (λ j. asks_by (program_over p hooks) limit j m.cond (binding_in nodes b) limit)

-- settling stands over an evaluator's table, so that where a condition ends that it asks, it ends so
pub record CanEnd (p : Typed.Program) (hooks : List Operator) (limit : ℕ) (nodes : List Node) (table : Table) (s : Settling) : Type 0 where
  pub heads : HasHeads (program_over p hooks)
  pub accepted : IsBuiltAndAccepted p.sig
  pub are : AreNodes nodes
  pub derived : IsDerivedTable (meanings_by p hooks limit false) nodes table
  pub settling : IsSettling p nodes table s
  pub derives : DerivesCurrent p hooks limit nodes s
