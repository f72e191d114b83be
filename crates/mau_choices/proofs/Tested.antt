-- Values that are those of a solution, as they are tested.
use Rattle.std.proofs.Common.{◌≡◌, List, [], ◌∷◌, All, false, None, is_some, Result, Ok, Err, IfOk, sym, ap, ◌∙◌, subst}
use Rattle.std.proofs.lemmas.List.Elements.{All-nil, All-cons}
use Rattle.mau_terms.specs.Bare.{IsLawful}
use Rattle.mau_terms.specs.View.{tree_of}
use Rattle.mau_terms.specs.declared.bare.Bare.{Bare}
use Rattle.mau_terms.specs.declared.ids.VarId.{VarId}
use Rattle.mau_terms.specs.declared.ids.TermId.{TermId}
use Rattle.mau_signature.specs.Signature.{SignatureOf, theory_at, terms_over}
use Rattle.mau_store.specs.Node.{Node, AreNodes}
use Rattle.mau_store.specs.View.{numbers}
use Rattle.mau_canon.specs.Standing.{StandWithin}
use Rattle.mau_sorts.specs.Table.{Table, IsSettled}
use Rattle.mau_listing.specs.Asked.{asks, IsGiven, CanGoOn}
use Rattle.mau_listing.specs.declared.places.Place.{Place}
use Rattle.mau_listing.specs.declared.solution.Solution.{Solution}
use Rattle.mau_trial.specs.Tried.{HoldsAtEach, IsFor, IsTried, ArePlacesOf, asked_in, without_context}
use Rattle.mau_trial.specs.declared.tried.Trial.{Trial}
use Rattle.mau_trial.proofs.Solved.{tried_is_given}

settled_each : (s : SignatureOf) (table : Table) (bound : List (VarId × TermId)) (ps : List Place) (vs : List TermId) → HoldsAtEach (IsFor s.hierarchy table bound) ps vs → All (IsSettled table) (numbers vs)
settled_each s table bound [] [] each = All-nil (IsSettled table)
settled_each s table bound [] (v ∷ vs) each = absurd each
settled_each s table bound (p ∷ ps) [] each = absurd each
settled_each s table bound (p ∷ ps) (v ∷ vs) each = All-cons (IsSettled table) v.0 (numbers vs) (ap is_some each.0.at) (settled_each s table bound ps vs each.1)

-- a question as a listing holds it, where the values of a binding are tested for it
pub own_given : (s : SignatureOf) → IsLawful (terms_over s) → (nodes : List Node) → AreNodes nodes → (table : Table) (pattern : Bare) (bound : List (VarId × TermId)) (v : TermId) →
    CanGoOn false s nodes table (asks (tree_of pattern) bound v) None → (t : Trial) → t.pattern ≡ pattern → t.bound.items ≡ bound → t.subject ≡ v → t.last ≡ None → (ps : List Place) → ArePlacesOf s (tree_of pattern) ps →
    (l : List TermId) → StandWithin (theory_at s) nodes (numbers l) → IsTried s nodes table (asked_in t) ps l → IsGiven false s nodes table (asks (tree_of pattern) bound v) (without_context l)
own_given s lawful nodes are table pattern bound v can t e f q n ps places l within is =
    let same : asked_in t ≡ asks (tree_of pattern) bound v =
    ap (λ (p : Bare). asks (tree_of p) t.bound.items t.subject) e ∙ (ap (λ bs. asks (tree_of pattern) bs t.subject) f ∙ ap (asks (tree_of pattern) bound) q) in
    let can_t : CanGoOn false s nodes table (asked_in t) t.last = subst (CanGoOn false s nodes table (asked_in t)) (sym n) (subst (λ a. CanGoOn false s nodes table a None) (sym same) can) in
    subst (λ a. IsGiven false s nodes table a (without_context l)) same
    (tried_is_given s nodes are table t ps (subst (λ (p : Bare). ArePlacesOf s (tree_of p) ps) (sym e) places) can_t l within lawful (settled_each s table (asked_in t).bound ps l is.each) is)

pub ok_is : {E : Type 0} (r : Result Solution E) (y : Solution) (P : Solution → Type 0) → IfOk r (λ x. x ≡ y) → P y → IfOk r P
ok_is (Ok x) y P e h = subst P (sym e) h
ok_is (Err d) y P e h = tt
