-- Lists of numbers that are tried, one after another.
use Rattle.std.specs.Prelude.{◌≡◌, ◌⊎◌, ◌++◌, List, [], ◌∷◌, Contains}
use Rattle.mau_terms.specs.Tree.{Tree}
use Rattle.mau_terms.specs.declared.ids.TermId.{TermId}
use Rattle.mau_signature.specs.Signature.{SignatureOf, theory_at}
use Rattle.mau_store.specs.Node.{Node}
use Rattle.mau_store.specs.Trees.{tree_at}
use Rattle.mau_sorts.specs.Table.{Table}
use Rattle.mau_listing.specs.declared.places.Place.{Place}
use Rattle.mau_listing.specs.Places.{under_all}
use Rattle.mau_trial.specs.Tried.{IsTried, asked_in}
use Rattle.mau_trial.specs.declared.tried.Trial.{Trial}
use Rattle.mau_plain.specs.Least.{IsBehindLast}

-- the numbers vs are tried with success, and they come behind the last solution's
pub record IsTriedBehind (s : SignatureOf) (nodes : List Node) (table : Table) (t : Trial) (ps : List Place) (vs : List TermId) : Type 0 where
  pub tried : IsTried s nodes table (asked_in t) ps vs
  pub behind : IsBehindLast (theory_at s) (under_all ps) nodes t.last vs

-- these values are added, which are tried with success, or they are not added, and are not
abbrev pub AddsTried : SignatureOf → List Node → Table → Trial → List Place → List TermId → List (List TermId) → List (List TermId) → Type 0
AddsTried s nodes table t ps vs before after =
    ((after ≡ before ++ vs ∷ []) × IsTriedBehind s nodes table t ps vs) ⊎ ((after ≡ before) × (IsTriedBehind s nodes table t ps vs → ⊥))

-- one of these numbers is that of the term v
abbrev pub HasNumberIn : List Node → List TermId → Tree → Type 0
HasNumberIn nodes ids v = (id : TermId) × Contains ids id × (tree_at nodes id.0 ≡ v)
