-- When values can be tried, and trials in other stores.
use Rattle.std.proofs.Common.{◌≡◌, suc, List, [], ◌∷◌, false, Option, None, Some, IfSome, map, length, refl, sym, ap, ◌∙◌, subst}
use Rattle.mau_terms.specs.Norm.{norm}
use Rattle.mau_terms.specs.Bare.{IsBare}
use Rattle.mau_terms.specs.Tree.{Tree}
use Rattle.mau_terms.specs.Reading.{reading}
use Rattle.mau_terms.specs.Subst.{variables, with_values}
use Rattle.mau_terms.specs.View.{tree_of, variable_of}
use Rattle.mau_terms.specs.declared.ids.TermId.{TermId}
use Rattle.mau_signature.specs.Signature.{SignatureOf, theory_at, terms_over}
use Rattle.mau_store.specs.Node.{Node}
use Rattle.mau_store.specs.Trees.{tree_at, trees_at}
use Rattle.mau_store.specs.View.{numbers}
use Rattle.mau_sorts.specs.Table.{Table}
use Rattle.mau_canon.specs.Standing.{StandWithin}
use Rattle.mau_listing.specs.declared.places.Place.{Place}
use Rattle.mau_listing.specs.declared.solution.Solution.{Solution}
use Rattle.mau_listing.specs.Places.{variables_in}
use Rattle.mau_listing.specs.Asked.{CanBeLast, CanGoOn}
use Rattle.mau_trial.specs.Tried.{IsTried, ArePlacesOf, IsReadyToTry, asked_in}
use Rattle.mau_trial.specs.declared.tried.Trial.{Trial}

-- a pattern has as many variables as places
pub one_place : (s : SignatureOf) (p : Tree) (ps : List Place) → ArePlacesOf s p ps → length (variables p) ≡ length ps
one_place s p ps places_are = sym (ap (λ xs. length xs) places_are.variables) ∙ both ps
  where
    both : (qs : List Place) → length (map variable_of (variables_in qs)) ≡ length qs
    both [] = refl
    both (q ∷ qs) = ap suc (both qs)

-- where a listing can go on, values can be tried
pub ready_to_try : (s : SignatureOf) (nodes : List Node) (table : Table) (t : Trial) → CanGoOn false s nodes table (asked_in t) t.last → (ps : List Place) → ArePlacesOf s (tree_of t.pattern) ps → IsReadyToTry s nodes table t ps
ready_to_try s nodes table t can ps places_are = record {
  bare = can.askable.pattern;
  places = places_are;
  over = can.over;
  subject = can.askable.subject;
  last = last_ready t.last can.given;
}
  where
    last_ready : (o : Option Solution) → IfSome o (CanBeLast false s nodes table (asked_in t)) → IfSome o (λ x. StandWithin (theory_at s) nodes (numbers x.values) × (length x.values ≡ length ps))
    last_ready None given = tt
    last_ready (Some x) given = (given.values, given.one_each ∙ one_place s (tree_of t.pattern) ps places_are)

module _ (s : SignatureOf) (table : Table) (t : Trial) (ps : List Place) (one other : List Node) (vs : List TermId) (values : trees_at one (numbers vs) ≡ trees_at other (numbers vs)) (subject : tree_at one t.subject.0 ≡ tree_at other t.subject.0) where
  pub tried_by : IsTried s one table (asked_in t) ps vs → IsTried s other table (asked_in t) ps vs
  tried_by is = record {
    each = is.each;
    bare = subst (λ ws. IsBare (terms_over s) (with_values (tree_of t.pattern) (map (reading (theory_at s)) ws))) values is.bare;
    whole = subst (λ u. norm (theory_at s) (with_values (tree_of t.pattern) (trees_at other (numbers vs))) ≡ u) subject (subst (λ ws. norm (theory_at s) (with_values (tree_of t.pattern) ws) ≡ tree_at one t.subject.0) values is.whole);
  }
