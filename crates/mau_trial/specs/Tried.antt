-- What lists of numbers are tested for, before they are the values of a solution.
use Rattle.std.specs.Prelude.{◌≡◌, List, [], ◌∷◌, All, Some, IfSome, length, map}
use Rattle.mau_poset.specs.Order.{Hierarchy}
use Rattle.mau_terms.specs.Norm.{norm}
use Rattle.mau_terms.specs.Bare.{IsBare, IsBareIn}
use Rattle.mau_terms.specs.Reading.{reading}
use Rattle.mau_terms.specs.Subst.{with_values}
use Rattle.mau_terms.specs.Subst
use Rattle.mau_terms.specs.Tree.{Tree}
use Rattle.mau_terms.specs.Solution.{places}
use Rattle.mau_terms.specs.View.{tree_of, variable_of}
use Rattle.mau_terms.specs.declared.ids.TermId.{TermId}
use Rattle.mau_terms.specs.declared.ids.VarId.{VarId}
use Rattle.mau_signature.specs.Signature.{SignatureOf, theory_at, terms_over}
use Rattle.mau_store.specs.Node.{Node}
use Rattle.mau_store.specs.Trees.{tree_at, trees_at}
use Rattle.mau_store.specs.View.{numbers}
use Rattle.mau_sorts.specs.SortSets.{SortsOf, IsIn}
use Rattle.mau_sorts.specs.Table.{Table, AreOver, entry_at}
use Rattle.mau_canon.specs.Standing.{StandsWithin, StandWithin}
use Rattle.mau_listing.specs.declared.places.Place.{Place}
use Rattle.mau_listing.specs.declared.solution.Solution.{Solution}
use Rattle.mau_listing.specs.Asked.{Asked, asks}
use Rattle.mau_listing.specs.Places.{variables_in, under_all, AreUnderOperators}
use Rattle.mau_trial.specs.declared.tried.Trial.{Trial}

-- there is one y for each x, and R holds of both
abbrev pub HoldsAtEach : {A B : Type 0} → (A → B → Type 0) → List A → List B → Type 0
HoldsAtEach R [] [] = Unit {0}
HoldsAtEach R [] (y ∷ ys) = ⊥
HoldsAtEach R (x ∷ xs) [] = ⊥
HoldsAtEach R (x ∷ xs) (y ∷ ys) = R x y × HoldsAtEach R xs ys

-- the entry of a value has its variable's sort, and a variable that has a value beforehand has that one
pub record IsFor (h : Hierarchy) (table : Table) (bound : List (VarId × TermId)) (place : Place) (value : TermId) : Type 0 where
  pub entry : SortsOf
  pub at : entry_at table value.0 ≡ Some entry
  pub has : IsIn h entry place.variable.sort
  pub agrees : All (λ b. b.0 ≡ place.variable → b.1 ≡ value) bound

-- a value, read as a bare term, is of its variable's kind
abbrev pub IsOfKindAt : SignatureOf → List Node → Place → TermId → Type 0
IsOfKindAt s nodes p v = IsBareIn (terms_over s) (reading (theory_at s) (tree_at nodes v.0)) ((terms_over s).kind_of p.variable.sort)

-- The numbers vs, one for each place of the pattern, are for these places, and make a bare instance whose normal form is the subject.
pub record IsTried (s : SignatureOf) (nodes : List Node) (table : Table) (a : Asked) (ps : List Place) (vs : List TermId) : Type 0 where
  pub each : HoldsAtEach (IsFor s.hierarchy table a.bound) ps vs
  pub bare : IsBare (terms_over s) (with_values a.pattern (map (reading (theory_at s)) (trees_at nodes (numbers vs))))
  pub whole : norm (theory_at s) (with_values a.pattern (trees_at nodes (numbers vs))) ≡ tree_at nodes a.subject.0

-- what is asked
abbrev pub asked_in : Trial → Asked
asked_in t = asks (tree_of t.pattern) t.bound.items t.subject

-- these are the places of a pattern
pub record ArePlacesOf (s : SignatureOf) (p : Tree) (ps : List Place) : Type 0 where
  pub variables : map variable_of (variables_in ps) ≡ Subst.variables p
  pub under : under_all ps ≡ places (theory_at s) p
  pub operators : AreUnderOperators s ps

-- what the trial of values needs: a bare pattern with its places, a subject within the limits, and a last solution with one value for
-- each place, within the limits
pub record IsReadyToTry (s : SignatureOf) (nodes : List Node) (table : Table) (t : Trial) (ps : List Place) : Type 0 where
  pub bare : IsBare (terms_over s) (tree_of t.pattern)
  pub places : ArePlacesOf s (tree_of t.pattern) ps
  pub over : AreOver s.hierarchy table
  pub subject : StandsWithin (theory_at s) nodes t.subject.0
  pub last : IfSome t.last (λ x. StandWithin (theory_at s) nodes (numbers x.values) × (length x.values ≡ length ps))

-- the solution with these values and no context
abbrev pub without_context : List TermId → Solution
without_context vs = record { left = []; right = []; values = vs }
