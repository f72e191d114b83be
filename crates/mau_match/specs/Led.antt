-- Values of variables that few values are left for, whatever their order.
use Rattle.std.specs.Prelude.{◌≡◌, ◌⊎◌, ◌++◌, ◌∷◌, [], List, Option, Some}
use Rattle.mau_terms.specs.Tree.{Tree}
use Rattle.mau_terms.specs.Norm.{norm}
use Rattle.mau_terms.specs.Subst.{Variable, instance}
use Rattle.mau_terms.specs.Finite.{IsIn}
use Rattle.mau_terms.specs.View.{variable_of}
use Rattle.mau_terms.specs.declared.ids.TermId.{TermId}
use Rattle.mau_terms.specs.declared.ids.VarId.{VarId}
use Rattle.mau_signature.specs.Signature.{SignatureOf, theory_at}
use Rattle.mau_store.specs.Node.{Node}
use Rattle.mau_store.specs.Trees.{trees_at}
use Rattle.mau_store.specs.View.{numbers}
use Rattle.mau_canon.specs.Standing.{StandWithin}
use Rattle.mau_domains.specs.Parts.{IsOf}
use Rattle.mau_domains.specs.Stored.{part_in}
use Rattle.mau_domains.specs.declared.part.Part.{Part as PartOfCode}
use Rattle.mau_match.specs.Parts.{AnyOf, IsFair}
use Rattle.mau_match.specs.Limited.{AreLimited}
use Rattle.mau_match.specs.Possible.{AgreesIn}
use Rattle.mau_match.specs.Walked.{parts_in}
use Rattle.mau_match.specs.declared.lead.Choice.{Choice}
use Rattle.mau_match.specs.declared.part.Given.{Given}
use Rattle.mau_match.specs.declared.part.Limit.{Limit}

-- where the instance of p is t, the value of x is one of these
abbrev pub AreAllValues : SignatureOf → List Node → Given → Tree → Tree → Variable → List Tree → Type 0
AreAllValues s nodes g p t x vs =
    (gg : Variable → Tree) → AgreesIn s nodes g gg → IsFair (theory_at s) gg p → norm (theory_at s) (instance gg p) ≡ t → IsIn (norm (theory_at s) (gg x)) vs

-- no values make the instance of p be t and that of x one of these
abbrev pub AreNeverWith : SignatureOf → List Node → Given → Tree → Tree → Variable → List Tree → Type 0
AreNeverWith s nodes g p t x vs =
    (gg : Variable → Tree) → AgreesIn s nodes g gg → IsFair (theory_at s) gg p → norm (theory_at s) (instance gg p) ≡ t → IsIn (norm (theory_at s) (gg x)) vs → ⊥

-- a term is added, or it is the one before it, and nothing is added
abbrev pub IsAdded : Option TermId → TermId → List TermId → List TermId → Type 0
IsAdded before id old new = ((new ≡ old) × (before ≡ Some id)) ⊎ (new ≡ old ++ id ∷ [])

-- these values are those that were there, and all that x may have of the part within the limits
pub record GainsValues (s : SignatureOf) (ls : List Limit) (x : VarId) (old new : List Node) (q : PartOfCode) (before after : List TermId) : Type 0 where
  pub within : StandWithin (theory_at s) new (numbers after)
  pub kept : (v : Tree) → IsIn v (trees_at old (numbers before)) → IsIn v (trees_at new (numbers after))
  pub values : (gg : Variable → Tree) → AreLimited (theory_at s) ls gg → IsOf (theory_at s) (part_in old q) (norm (theory_at s) (gg (variable_of x))) → IsIn (norm (theory_at s) (gg (variable_of x))) (trees_at new (numbers after))

-- these values are all that x may have of the parts within the limits
pub record GathersValues (s : SignatureOf) (ls : List Limit) (x : VarId) (old new : List Node) (qs : List PartOfCode) (ids : List TermId) : Type 0 where
  pub within : StandWithin (theory_at s) new (numbers ids)
  pub values : (gg : Variable → Tree) → AreLimited (theory_at s) ls gg → AnyOf (theory_at s) (parts_in old qs) (norm (theory_at s) (gg (variable_of x))) → IsIn (norm (theory_at s) (gg (variable_of x))) (trees_at new (numbers ids))

-- the choice has all values of its variable
pub record IsChoice (s : SignatureOf) (old new : List Node) (g : Given) (p t : Tree) (c : Choice) : Type 0 where
  pub within : StandWithin (theory_at s) new (numbers c.values.items)
  pub values : AreAllValues s old g p t (variable_of c.variable) (trees_at new (numbers c.values.items))
