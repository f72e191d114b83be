-- All solutions of a pattern in a term, as they are bound.
use Rattle.std.specs.Prelude.{◌≡◌, ℕ, List, [], ◌∷◌, map, All, Bool, Option, Some, None}
use Rattle.mau_terms.specs.Tree.{Tree}
use Rattle.mau_terms.specs.Subst.{variables}
use Rattle.mau_terms.specs.View.{variable_of}
use Rattle.mau_terms.specs.declared.ids.VarId.{VarId}
use Rattle.mau_terms.specs.declared.ids.TermId.{TermId}
use Rattle.mau_signature.specs.Signature.{SignatureOf, theory_at}
use Rattle.mau_store.specs.Node.{Node, Extends}
use Rattle.mau_store.specs.Trees.{tree_at}
use Rattle.mau_canon.specs.Standing.{StandsWithin}
use Rattle.mau_sorts.specs.HasSort.{Known}
use Rattle.mau_sorts.specs.Table.{Table, IsSettled, AreOver, KeepsEntries}
use Rattle.mau_listing.specs.Asked.{Asked, asks, IsTableOf, IsClosedTable, MaySettle, HasEntry, CanGoOn}
use Rattle.mau_listing.specs.Matcher.{Matcher}
use Rattle.mau_listing.specs.Question.{Question}
use Rattle.mau_listing.specs.declared.solution.Solution as Given
use Rattle.mau_evaluation.specs.Evaluation.{Binding, extend}
use Rattle.mau_api.specs.Remaining.{AreLeftOf}

-- the solutions of p in a term are listed, with contexts or without, and the listing can go on behind the last one
pub record IsListing (c : Bool) (s : SignatureOf) (nodes : List Node) (table : Table) (p : Tree) (t : TermId) (asked : Asked) (last : Option Given.Solution) (is_for : Type 0) : Type 0 where
  pub is : asked ≡ asks p [] t
  pub signature : is_for
  pub ready : CanGoOn c s nodes table asked last

-- the store and the table have grown, as a listing against the term t grows them
pub record HasGrown (s : SignatureOf) (old new : List Node) (before after : Table) (t : ℕ) : Type 0 where
  pub extends : Extends old new
  pub kept : KeepsEntries before after
  pub over : AreOver s.hierarchy after
  pub entries : (i : ℕ) → IsSettled after i → MaySettle s new before (tree_at old t) i
  pub table : (known : Known) → IsTableOf s known old before → IsTableOf s known new after
  pub closed : IsClosedTable old before → IsClosedTable new after

-- the variables of p with values that have their sorts by their entries
pub record IsSorted (s : SignatureOf) (nodes : List Node) (table : Table) (p : Tree) (b : List (VarId × TermId)) : Type 0 where
  pub named : map (λ x. variable_of x.0) b ≡ variables p
  pub within : All (λ x. StandsWithin (theory_at s) nodes x.1.0) b
  pub sorts : All (λ x. HasEntry s nodes table (variable_of x.0).1 (tree_at nodes x.1.0)) b

-- the values of a solution of p, as they are bound
abbrev pub bound_by : Tree → Matcher → Binding
bound_by p x = extend [] (variables p) x.values

-- σ is by the first of what is left, and the rest is left behind it; or nothing is left
abbrev pub GivesNext : Bool → SignatureOf → Known → Question → Option Binding → Option Matcher → List Matcher → Type 0
GivesNext c s known q None last xs = xs ≡ []
GivesNext c s known q (Some σ) last [] = ⊥
GivesNext c s known q (Some σ) last (x ∷ xs) = (σ ≡ bound_by q.pattern x) × AreLeftOf c s known q last xs
