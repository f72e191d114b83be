-- Trials of values, in a store that grows, one after another.
use Rattle.std.proofs.Common.{◌≡◌, ◌<◌, ◌++◌, ℕ, suc, List, [], ◌∷◌, Option, None, Some, IfSome, All, Contains, inl, inr, ⊎_elim, length, take, get_or, sym, ap₂, ◌∙◌, subst}
use Rattle.std.proofs.lemmas.List.Elements.{All-push, Contains-push, Contains-get_or}
use Rattle.std.specs.Cmp.Lexicographic.{slice_cmp}
use Rattle.std.specs.declared.cmp.Ordering.{Ordering}
use Rattle.mau_terms.specs.Solution.{list_cmp, value_keys}
use Rattle.mau_terms.specs.Tree.{Tree}
use Rattle.mau_terms.specs.declared.ids.TermId.{TermId}
use Rattle.mau_signature.specs.Signature.{SignatureOf, theory_at}
use Rattle.mau_store.specs.Node.{Node, Extends}
use Rattle.mau_store.specs.Trees.{tree_at, trees_at}
use Rattle.mau_store.specs.View.{numbers}
use Rattle.mau_store.proofs.Standing.{tree_at-extends}
use Rattle.mau_store.proofs.Growth.{trees_at-extends}
use Rattle.mau_sorts.specs.Table.{Table}
use Rattle.mau_canon.specs.Standing.{StandWithin}
use Rattle.mau_canon.proofs.Standing.{stand_there, stand_within_extended, stands_within_extended}
use Rattle.mau_listing.specs.declared.places.Place.{Place}
use Rattle.mau_listing.specs.declared.solution.Solution.{Solution}
use Rattle.mau_listing.specs.Places.{under_all}
use Rattle.mau_trial.proofs.Trials.{tried_by}
use Rattle.mau_plain.specs.Least.{IsBehindLast}
use Rattle.mau_trial.specs.Tried.{IsReadyToTry}
use Rattle.mau_plain.specs.Behind.{IsTriedBehind, AddsTried}
use Rattle.mau_trial.specs.declared.tried.Trial.{Trial}
use Rattle.mau_plain.proofs.Gathering.{contains_more}
use Rattle.mau_plain.proofs.Settling.{push_kept}

-- ---- in a store that has grown

module _ (s : SignatureOf) (table : Table) (t : Trial) (ps : List Place) (one other : List Node) (vs : List TermId) (values : trees_at one (numbers vs) ≡ trees_at other (numbers vs)) (subject : tree_at one t.subject.0 ≡ tree_at other t.subject.0) where
  behind_by : (o : Option Solution) → IfSome o (λ x. trees_at one (numbers x.values) ≡ trees_at other (numbers x.values)) → IsBehindLast (theory_at s) (under_all ps) one o vs → IsBehindLast (theory_at s) (under_all ps) other o vs
  behind_by None h is = tt
  behind_by (Some x) h is = sym (ap₂ (λ us ws. by us ws) h values) ∙ is
    where
      by : List Tree → List Tree → Ordering
      by us ws = slice_cmp list_cmp (value_keys (theory_at s) (under_all ps) us) (value_keys (theory_at s) (under_all ps) ws)

  pub tried_behind_by : IfSome t.last (λ x. trees_at one (numbers x.values) ≡ trees_at other (numbers x.values)) → IsTriedBehind s one table t ps vs → IsTriedBehind s other table t ps vs
  tried_behind_by h is = record { tried = tried_by s table t ps one other vs values subject is.tried; behind = behind_by t.last h is.behind }

module _ (s : SignatureOf) (table : Table) (t : Trial) (ps : List Place) (old new : List Node) (extends : Extends old new) (ready : IsReadyToTry s old table t ps) where
  last_same : (o : Option Solution) → IfSome o (λ x. StandWithin (theory_at s) old (numbers x.values) × (length x.values ≡ length ps)) → IfSome o (λ x. trees_at new (numbers x.values) ≡ trees_at old (numbers x.values))
  last_same None h = tt
  last_same (Some x) h = trees_at-extends old new (numbers x.values) extends (stand_there (theory_at s) old (numbers x.values) h.0)

  last_back : (o : Option Solution) → IfSome o (λ x. trees_at new (numbers x.values) ≡ trees_at old (numbers x.values)) → IfSome o (λ x. trees_at old (numbers x.values) ≡ trees_at new (numbers x.values))
  last_back None h = tt
  last_back (Some x) h = sym h

  last_within : (o : Option Solution) → IfSome o (λ x. StandWithin (theory_at s) old (numbers x.values) × (length x.values ≡ length ps)) → IfSome o (λ x. StandWithin (theory_at s) new (numbers x.values) × (length x.values ≡ length ps))
  last_within None h = tt
  last_within (Some x) h = (stand_within_extended (theory_at s) old new (numbers x.values) extends h.0, h.1)

  pub ready_extended : IsReadyToTry s new table t ps
  ready_extended = record {
    bare = ready.bare;
    places = ready.places;
    over = ready.over;
    subject = stands_within_extended (theory_at s) old new extends t.subject.0 ready.subject;
    last = last_within t.last ready.last;
  }

  module _ (vs : List TermId) (within : StandWithin (theory_at s) old (numbers vs)) where
    pub tried_kept : IsTriedBehind s old table t ps vs → IsTriedBehind s new table t ps vs
    tried_kept =
        tried_behind_by s table t ps old new vs (sym (trees_at-extends old new (numbers vs) extends (stand_there (theory_at s) old (numbers vs) within)))
        (sym (tree_at-extends old new t.subject.0 extends ready.subject.there)) (last_back t.last (last_same t.last ready.last))

    pub tried_before : IsTriedBehind s new table t ps vs → IsTriedBehind s old table t ps vs
    tried_before =
        tried_behind_by s table t ps new old vs (trees_at-extends old new (numbers vs) extends (stand_there (theory_at s) old (numbers vs) within))
        (tree_at-extends old new t.subject.0 extends ready.subject.there) (last_same t.last ready.last)

-- ---- one after another

-- added in a store that has grown is added in the one before
module _ (s : SignatureOf) (table : Table) (t : Trial) (ps : List Place) (old new : List Node) (extends : Extends old new) (ready : IsReadyToTry s old table t ps) where
  pub adds_before : (vs : List TermId) → StandWithin (theory_at s) old (numbers vs) → (before after : List (List TermId)) → AddsTried s new table t ps vs before after → AddsTried s old table t ps vs before after
  adds_before vs within before after (inl h) = inl (h.0, tried_before s table t ps old new extends ready vs within h.1)
  adds_before vs within before after (inr h) = inr (h.0, λ is. h.1 (tried_kept s table t ps old new extends ready vs within is))

module _ (s : SignatureOf) (nodes : List Node) (table : Table) (t : Trial) (ps : List Place) (lists : List (List TermId)) (i : ℕ) (low : i < length lists) (before after : List (List TermId)) (adds : AddsTried s nodes table t ps (get_or lists i []) before after) where
  pub tried_among_more : All (Contains lists) before → All (Contains lists) after
  tried_among_more all =
      ⊎_elim
      (λ (h : (after ≡ before ++ get_or lists i [] ∷ []) × IsTriedBehind s nodes table t ps (get_or lists i [])). subst (All (Contains lists)) (sym h.0) (All-push (Contains lists) before (get_or lists i []) all (Contains-get_or lists i [] low)))
      (λ (h : (after ≡ before) × (IsTriedBehind s nodes table t ps (get_or lists i []) → ⊥)). subst (All (Contains lists)) (sym h.0) all)
      adds

  pub tried_more : All (IsTriedBehind s nodes table t ps) before → All (IsTriedBehind s nodes table t ps) after
  tried_more all =
      ⊎_elim
      (λ (h : (after ≡ before ++ get_or lists i [] ∷ []) × IsTriedBehind s nodes table t ps (get_or lists i [])). subst (All (IsTriedBehind s nodes table t ps)) (sym h.0) (All-push (IsTriedBehind s nodes table t ps) before (get_or lists i []) all h.1))
      (λ (h : (after ≡ before) × (IsTriedBehind s nodes table t ps (get_or lists i []) → ⊥)). subst (All (IsTriedBehind s nodes table t ps)) (sym h.0) all)
      adds

  pub all_tried_more : ((l : List TermId) → Contains (take i lists) l → IsTriedBehind s nodes table t ps l → Contains before l) → (l : List TermId) → Contains (take (suc i) lists) l → IsTriedBehind s nodes table t ps l → Contains after l
  all_tried_more all l there is =
      ⊎_elim
      (λ (h : (after ≡ before ++ get_or lists i [] ∷ []) × IsTriedBehind s nodes table t ps (get_or lists i [])).
      subst (λ ls. Contains ls l) (sym h.0)
      (⊎_elim
      (λ (c : Contains (take i lists) l). push_kept before (get_or lists i []) l (all l c is))
      (λ (e : l ≡ get_or lists i []). subst (Contains (before ++ get_or lists i [] ∷ [])) (sym e) (Contains-push before (get_or lists i [])))
      (contains_more lists i [] l low there)))
      (λ (h : (after ≡ before) × (IsTriedBehind s nodes table t ps (get_or lists i []) → ⊥)).
      subst (λ ls. Contains ls l) (sym h.0)
      (⊎_elim
      (λ (c : Contains (take i lists) l). all l c is)
      (λ (e : l ≡ get_or lists i []). absurd (h.1 (subst (IsTriedBehind s nodes table t ps) e is)))
      (contains_more lists i [] l low there)))
      adds
