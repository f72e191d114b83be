-- A term of which memberships can be asked, and the derivation of its sorts as it is kept.
use Rattle.std.specs.Prelude.{◌≡◌, ◌⊎◌, ◌≤◌, ℕ, List, All, false, Some, map, length, slice_get}
use Rattle.mau_terms.specs.Tree.{Tree, variable, numeral, apply, Trees, no_trees, tree}
use Rattle.mau_terms.specs.Norm.{unit_tree}
use Rattle.mau_terms.specs.View.{tree_of}
use Rattle.mau_terms.specs.declared.ids.VarId.{VarId}
use Rattle.mau_terms.specs.declared.ids.TermId.{TermId}
use Rattle.mau_terms.specs.declared.theory.Identity.{Identity}
use Rattle.mau_signature.specs.Signature.{SignatureOf, theory_at}
use Rattle.mau_formula.specs.Operator.{Operator}
use Rattle.mau_store.specs.Node.{Node}
use Rattle.mau_store.specs.Trees.{tree_at}
use Rattle.mau_sorts.specs.SortSets.{AreSorts}
use Rattle.mau_sorts.specs.Table.{Table, AreOver}
use Rattle.mau_listing.specs.Asked.{IsTreeSettled, IsBelow}
use Rattle.mau_program.specs.declared.program.Program as Typed
use Rattle.mau_program.specs.declared.statements.Membership as Written
use Rattle.mau_api.specs.Programs.{program_over}
use Rattle.mau_api.specs.Terms.{IsTerm}
use Rattle.mau_api.specs.Answers.{IsDerivedTable, binding_in}
use Rattle.mau_api.specs.Meanings.{meanings_by}
use Rattle.mau_evaluation.specs.HasSort.{HasHeads}
use Rattle.mau_sigcheck.specs.Built.{IsBuiltAndAccepted}
use Rattle.mau_deriving.specs.Derivations.{IsDeriving}
use Rattle.mau_deriving.specs.Listing.{IsSorted}
use Rattle.mau_deriving.specs.declared.derivation.Deriving.{Deriving}

-- an operator without arguments
abbrev pub IsConstant : Tree → Type 0
IsConstant (variable i s) = ⊥
IsConstant (numeral n) = ⊥
IsConstant (apply f no_trees) = Unit {0}
IsConstant (apply f (tree t ts)) = ⊥

-- an operator over arguments
abbrev pub IsApplied : Tree → Type 0
IsApplied (variable i s) = ⊥
IsApplied (numeral n) = ⊥
IsApplied (apply f ts) = Unit {0}

-- memberships can be asked of the term t: all below it is settled, and so are the identities, where it isn't a constant
pub record CanBeAsked (s : SignatureOf) (nodes : List Node) (table : Table) (t : ℕ) : Type 0 where
  pub term : IsTerm s nodes t
  pub applied : IsApplied (tree_at nodes t)
  pub over : AreOver s.hierarchy table
  pub below : (u : Tree) → IsBelow u (tree_at nodes t) → IsTreeSettled nodes table u
  pub identities : IsConstant (tree_at nodes t) ⊎ ((f : ℕ) (i : Identity) → (theory_at s f).id ≡ Some i → IsTreeSettled nodes table (unit_tree i))

-- what the membership at a place asks, if there is one: values of the variables of its head, which have their sorts
pub record AreSortedAt (p : Typed.Program) (nodes : List Node) (table : Table) (at : ℕ) (questions : List (List (VarId × TermId))) : Type 0 where
  pub head : Tree
  pub is : (m : Written.Membership) → slice_get p.memberships at ≡ Some m → head ≡ tree_of m.left
  pub sorted : All (IsSorted p.sig nodes table head) questions

-- a derivation stands in a state: its places are there, and what is bound has its sorts
pub record Stands (p : Typed.Program) (nodes : List Node) (table : Table) (d : Deriving) : Type 0 where
  pub can_be_asked : CanBeAsked p.sig nodes table d.term.0
  pub at : d.at ≤ length p.memberships
  pub asked : d.asked ≤ length d.questions.items
  pub found : AreSorts p.sig.hierarchy d.found.items
  pub sorted : AreSortedAt p nodes table d.at d.questions.items

-- it derives the sorts of its term
pub record Derives (p : Typed.Program) (hooks : List Operator) (limit : ℕ) (nodes : List Node) (d : Deriving) : Type 0 where
  pub operator : ℕ
  pub arguments : Trees
  pub is : tree_at nodes d.term.0 ≡ apply operator arguments
  pub derives : IsDeriving (program_over p hooks) limit operator arguments p.sig.hierarchy d.at d.asked (map (binding_in nodes) d.questions.items) d.holds d.found.items

-- it does so over an evaluator's table, so that where a condition that it asks ends, the sorts of its term end
pub record CanEnd (p : Typed.Program) (hooks : List Operator) (limit : ℕ) (nodes : List Node) (table : Table) (d : Deriving) : Type 0 where
  pub heads : HasHeads (program_over p hooks)
  pub accepted : IsBuiltAndAccepted p.sig
  pub derived : IsDerivedTable (meanings_by p hooks limit false) nodes table
  pub stands : Stands p nodes table d
  pub derives : Derives p hooks limit nodes d
