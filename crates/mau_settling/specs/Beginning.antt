-- Where a derivation may begin, and later states.
use Rattle.std.specs.Prelude.{◌≡◌, ◌⊎◌, ℕ, List, [], ◌∷◌, Option, Some, None}
use Rattle.mau_terms.specs.Norm.{unit_tree}
use Rattle.mau_terms.specs.Finite.{units_of}
use Rattle.mau_terms.specs.declared.ids.TermId.{TermId}
use Rattle.mau_terms.specs.declared.theory.Identity.{Identity}
use Rattle.mau_signature.specs.Signature.{SignatureOf, theory_at}
use Rattle.mau_store.specs.Node.{Node, Extends}
use Rattle.mau_store.specs.Trees.{tree_at}
use Rattle.mau_sorts.specs.Table.{Table, IsSettled, IsReady, AreOver, KeepsEntries}
use Rattle.mau_listing.specs.Asked.{IsTreeSettled, IsClosedTable}
use Rattle.mau_program.specs.declared.program.Program as Typed
use Rattle.mau_api.specs.Terms.{IsTerm}
use Rattle.mau_deriving.specs.Asking.{IsConstant, IsApplied}

-- the store and the table have grown, and the table is still one over the sorts in which the arguments of a settled term are settled
pub record IsLater (p : Typed.Program) (old new : List Node) (before after : Table) : Type 0 where
  pub extends : Extends old new
  pub kept : KeepsEntries before after
  pub over : AreOver p.sig.hierarchy after
  pub closed : IsClosedTable new after

-- the identities are settled
abbrev pub AreIdentitiesSettled : SignatureOf → List Node → Table → Type 0
AreIdentitiesSettled s nodes table = (f : ℕ) (i : Identity) → (theory_at s f).id ≡ Some i → IsTreeSettled nodes table (unit_tree i)

-- the term t is not settled, its arguments are, and so are the identities, where it is an operator over arguments
pub record CanBegin (s : SignatureOf) (nodes : List Node) (table : Table) (t : ℕ) : Type 0 where
  pub term : IsTerm s nodes t
  pub ready : IsReady s nodes table t
  pub unsettled : ¬ IsSettled table t
  pub over : AreOver s.hierarchy table
  pub closed : IsClosedTable nodes table
  pub identities : IsApplied (tree_at nodes t) → IsConstant (tree_at nodes t) ⊎ AreIdentitiesSettled s nodes table

-- o is the identity of the operator f, if it has one
abbrev pub IdentityIs : SignatureOf → List Node → ℕ → Option TermId → Type 0
IdentityIs s nodes f None = units_of (theory_at s f).id ≡ []
IdentityIs s nodes f (Some id) = (units_of (theory_at s f).id ≡ tree_at nodes id.0 ∷ []) × IsTerm s nodes id.0
