-- The values of a solution have numbers among those that are gathered, and what is tried stands behind the last solution.
use Rattle.std.proofs.Common.{◌≡◌, ◌⊎◌, ℕ, zero, suc, List, [], ◌∷◌, false, Option, None, Some, IfSome, All, Contains, get_or, inl, inr, refl, sym, ap, ap₂, ◌∙◌, subst, arith}
use Rattle.std.specs.Option.{option_map}
use Rattle.std.proofs.lemmas.List.Elements.{All-nil, All-cons, All-head, All-tail}
use Rattle.mau_terms.specs.Tree.{Tree}
use Rattle.mau_terms.specs.Norm.{norm}
use Rattle.mau_terms.specs.Bare.{IsBare, IsLawful}
use Rattle.mau_terms.specs.Reading.{reading}
use Rattle.mau_terms.specs.Finite.{IsIn}
use Rattle.mau_terms.specs.Laws.{AreNorms}
use Rattle.mau_terms.specs.Subst.{Variable, variables, value_at}
use Rattle.mau_terms.specs.View.{tree_of}
use Rattle.mau_terms.specs.declared.ids.TermId.{TermId}
use Rattle.mau_terms.specs.declared.theory.Theory.{Theory}
use Rattle.mau_signature.specs.Signature.{SignatureOf, theory_at, terms_over}
use Rattle.mau_store.specs.Node.{Node, AreNodes}
use Rattle.mau_store.specs.Trees.{tree_at, trees_at}
use Rattle.mau_store.specs.View.{numbers}
use Rattle.mau_sorts.specs.Table.{Table}
use Rattle.mau_canon.specs.Standing.{StandWithin}
use Rattle.mau_canon.proofs.Standing.{stand_one}
use Rattle.mau_listing.specs.declared.places.Place.{Place}
use Rattle.mau_listing.specs.declared.solution.Solution.{Solution}
use Rattle.mau_listing.specs.Places.{under_all}
use Rattle.mau_listing.specs.Values.{MayBeValue}
use Rattle.mau_listing.specs.Answers.{IsAnswer}
use Rattle.mau_listing.specs.Next.{matcher_cmp, IsBehind}
use Rattle.mau_listing.specs.Asked.{Asked, question_in, matcher_in, IsSettleable, CanBeLast, CanGoOn}
use Rattle.mau_listing.proofs.Readied.{CanBeSettled}
use Rattle.mau_listing.proofs.Settleable.{settleable, values_fit}
use Rattle.mau_listing.proofs.Valued.{value_may_be}
use Rattle.mau_plain.specs.Least.{values_cmp, IsBehindLast}
use Rattle.mau_plain.specs.Parts.{IsOfSome}
use Rattle.mau_trial.specs.Tried.{HoldsAtEach, ArePlacesOf, asked_in, without_context}
use Rattle.mau_plain.specs.Behind.{HasNumberIn}
use Rattle.mau_trial.specs.declared.tried.Trial.{Trial}
use Rattle.mau_trial.proofs.AtEach.{holds_each}
use Rattle.mau_trial.proofs.Solved.{all_of_each, values_are_bare, cmp_alone}

-- ---- numbers of terms

pub in_number : (nodes : List Node) (ids : List TermId) (v : Tree) → IsIn v (trees_at nodes (numbers ids)) → HasNumberIn nodes ids v
in_number nodes [] v h = absurd h
in_number nodes (id ∷ ids) v (inl e) = (id, (zero, omega arith, refl), sym e)
in_number nodes (id ∷ ids) v (inr h) =
    let rest = in_number nodes ids v h in
    let lt = rest.1.1 in
    (rest.0, (suc rest.1.0, omega (arith, lt), rest.1.2), rest.2)

-- terms that have numbers are those of a list of these
pub numbers_of : (nodes : List Node) (ids : List TermId) (vs : List Tree) → All (HasNumberIn nodes ids) vs → (l : List TermId) × All (Contains ids) l × (trees_at nodes (numbers l) ≡ vs)
numbers_of nodes ids [] has = ([], All-nil (Contains ids), refl)
numbers_of nodes ids (v ∷ vs) has =
    let first = All-head (HasNumberIn nodes ids) v vs has in
    let rest = numbers_of nodes ids vs (All-tail (HasNumberIn nodes ids) v vs has) in
    (first.0 ∷ rest.0, All-cons (Contains ids) first.0 rest.0 first.1 rest.1, ap₂ (λ t ts. t ∷ ts) first.2 rest.2)

-- ---- the values of an answer

module _ (th : ℕ → Theory) where
  -- of normal forms it may be said of the normal form
  all_norms : (P : Tree → Type 0) (xs : List Variable) (vs : List Tree) → AreNorms th vs → HoldsAtEach (λ x v. P (norm th v)) xs vs → All P vs
  all_norms P [] [] n all = All-nil P
  all_norms P [] (v ∷ vs) n all = absurd all
  all_norms P (x ∷ xs) [] n all = absurd all
  all_norms P (x ∷ xs) (v ∷ vs) n all = All-cons P v vs (subst P n.0 all.0) (all_norms P xs vs n.1 all.1)

  pub all_are_norms : (vs : List Tree) → AreNorms th vs → All (λ v. norm th v ≡ v) vs
  all_are_norms [] n = All-nil (λ v. norm th v ≡ v)
  all_are_norms (v ∷ vs) n = All-cons (λ u. norm th u ≡ u) v vs n.0 (all_are_norms vs n.1)

module _ (s : SignatureOf) (lawful : IsLawful (terms_over s)) (nodes : List Node) (are : AreNodes nodes) (table : Table) (t : Trial) (can : CanGoOn false s nodes table (asked_in t) t.last) (P : ℕ → Tree → Type 0) (vs : List Tree) (is : IsAnswer s P (question_in nodes (asked_in t)) vs) where
  -- what all its values may be
  values_may_be : All (IsOfSome (theory_at s) (tree_of t.pattern) (tree_at nodes t.subject.0 ∷ [])) vs
  values_may_be =
      let th = theory_at s in
      let p = tree_of t.pattern in
      let subject = tree_at nodes t.subject.0 in
      let g = value_at (variables p) vs in
      all_norms th (IsOfSome th p (subject ∷ [])) (variables p) vs is.normal
      (holds_each (λ x v. IsOfSome th p (subject ∷ []) (norm th v)) p vs is.one_each
      (λ x o. (subject, inl refl, subst (λ u. MayBeValue th p u (norm th (g x))) is.whole (value_may_be th lawful.theories g x p o))))

  -- so each has a number among those that are settled, where all that may be values were gathered
  pub have_numbers : (gathered out : List TermId) → StandWithin (theory_at s) nodes (numbers gathered)
      → ((v : Tree) → IsOfSome (theory_at s) (tree_of t.pattern) (tree_at nodes t.subject.0 ∷ []) v → IsIn v (trees_at nodes (numbers gathered)))
      → ((id : TermId) → Contains gathered id → IsSettleable s nodes table t.subject.0 id.0 → Contains out id) → All (HasNumberIn nodes out) vs
  have_numbers gathered out within all settled = λ k d h.
      let v = get_or vs k d in
      let id = in_number nodes gathered v (all v (values_may_be k d h)) in
      let bare = all_of_each (λ u. IsBare (terms_over s) (reading (theory_at s) u)) (variables (tree_of t.pattern)) vs (values_are_bare s (tree_of t.pattern) can.askable.pattern vs is.one_each is.bare) k d h in
      let fit = values_fit s lawful nodes table (asked_in t) can.settled vs P is k d h in
      let normal = all_are_norms (theory_at s) vs is.normal k d h in
      let there = (stand_one (theory_at s) nodes gathered id.0 id.1 within).there in (
        id.0,
        settled id.0 id.1
            (settleable s nodes are table (asked_in t) id.0.0 there can.askable.subject.there lawful
            (subst (λ u. norm (theory_at s) u ≡ u) (sym id.2) normal)
            (subst (λ u. IsBare (terms_over s) (reading (theory_at s) u)) (sym id.2) bare)
            (subst (λ u. (u ≡ tree_at nodes t.subject.0) ⊎ CanBeSettled (theory_at s) nodes table u) (sym id.2) fit.fits)
            (λ e. fit.subject (sym id.2 ∙ e))),
        id.2,
      )

-- ---- behind the last one

module _ (s : SignatureOf) (nodes : List Node) (are : AreNodes nodes) (table : Table) (t : Trial) (ps : List Place) (places_are : ArePlacesOf s (tree_of t.pattern) ps) (can : CanGoOn false s nodes table (asked_in t) t.last) (l : List TermId) (within : StandWithin (theory_at s) nodes (numbers l)) where
  abbrev a : Asked
  a = asked_in t

  abbrev p : Tree
  p = tree_of t.pattern

  abbrev th : ℕ → Theory
  th = theory_at s

  abbrev Last : Option Solution → Type 0
  Last o = IfSome o (CanBeLast false s nodes table a)

  last_cmp : (last : Solution) → CanBeLast false s nodes table a last → matcher_cmp th p (matcher_in nodes last) (matcher_in nodes (without_context l)) ≡ values_cmp th (under_all ps) nodes last.values l
  last_cmp last given = cmp_alone th p (under_all ps) places_are.under (matcher_in nodes last) (matcher_in nodes (without_context l)) (ap (λ (ids : List TermId). trees_at nodes (numbers ids)) given.no_left) refl

  pub behind_tried : (o : Option Solution) → Last o → IsBehind (matcher_cmp th p) (option_map (matcher_in nodes) o) (matcher_in nodes (without_context l)) → IsBehindLast th (under_all ps) nodes o l
  behind_tried None given is = tt
  behind_tried (Some last) given is = sym (last_cmp last given) ∙ is

  pub tried_behind : (o : Option Solution) → Last o → IsBehindLast th (under_all ps) nodes o l → IsBehind (matcher_cmp th p) (option_map (matcher_in nodes) o) (matcher_in nodes (without_context l))
  tried_behind None given is = tt
  tried_behind (Some last) given is = last_cmp last given ∙ is
