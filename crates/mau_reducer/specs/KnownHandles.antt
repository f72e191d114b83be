-- What is known of handles.
use Rattle.std.proofs.Common.{◌≡◌, ℕ, zero, suc, ◌≤◌, List, [], ◌∷◌, Bool, true, false, All, Some, map, length, slice_get, sym, ap, ◌∙◌, subst}
use Rattle.std.proofs.Math.ListN.{set}
use Rattle.std.specs.List.{slice_set}
use Rattle.std.specs.Bool.{MatchBool}
use Rattle.std.proofs.lemmas.List.{map-set}
use Rattle.std.proofs.lemmas.List.Elements.{All-head, All-tail}
use Rattle.std.proofs.lemmas.Option.{slice_get_within, get_or_from_slice_get}
use Rattle.mau_terms.specs.Tree.{Tree, variable, numeral, apply, trees_of}
use Rattle.mau_terms.specs.Norm.{norm}
use Rattle.mau_terms.specs.Bare.{IsBareIn, AreBareIn, IsLawful}
use Rattle.mau_terms.specs.Reading.{reading}
use Rattle.mau_terms.specs.declared.ids.TermId.{TermId}
use Rattle.mau_terms.proofs.Wholes.{reading_top}
use Rattle.mau_signature.specs.Signature.{SignatureOf, theory_at, terms_over}
use Rattle.mau_store.specs.Node.{Node}
use Rattle.mau_store.specs.Trees.{tree_at, trees_at}
use Rattle.mau_store.specs.View.{numbers}
use Rattle.mau_canon.specs.Standing.{StandsWithin}
use Rattle.mau_canon.specs.Within.{IsWithin}
use Rattle.mau_listing.proofs.Answered.{normal_is, norm-reading-is}
use Rattle.mau_evaluation.specs.Listing.{kind_at}
use Rattle.mau_api.specs.Terms.{IsTerm, IsNormalTerm}
use Rattle.mau_reduce.specs.Kinds.{IsTermIn, AreUnder}
use Rattle.mau_reduce.proofs.KindsKept.{under_put}
use Rattle.mau_reducer.specs.Handles.{IsKnownTerm, AreKnownOperands}

-- ---- kinds

-- the kind of a normal form is that by its top
pub kind_is : (s : SignatureOf) → IsLawful (terms_over s) → (t : Tree) → norm (theory_at s) t ≡ t → (k : ℕ) → IsBareIn (terms_over s) (reading (theory_at s) t) k → kind_at (terms_over s) t ≡ Some k
kind_is s lawful (variable i r) n k b = ap Some b.2
kind_is s lawful (numeral m) n k b = b.1
kind_is s lawful (apply f ts) n k b = ap Some (reading_top (terms_over s) f ts k (normal_is (theory_at s) lawful.theories (apply f ts) n) b).1

pub term_kind : (s : SignatureOf) → IsLawful (terms_over s) → (nodes : List Node) (k i : ℕ) → IsTermIn s nodes k i → kind_at (terms_over s) (tree_at nodes i) ≡ Some k
term_kind s lawful nodes k i h = kind_is s lawful (tree_at nodes i) h.within.normal k h.bare

-- it is a term
pub is_term : (s : SignatureOf) (nodes : List Node) (k i : ℕ) → IsTermIn s nodes k i → IsTerm s nodes i
is_term s nodes k i h = record { within = h.within; bare = (k, h.bare) }

-- a term is one of the kind that its top says
pub of_kind : (s : SignatureOf) → IsLawful (terms_over s) → (nodes : List Node) (i k : ℕ) → IsTerm s nodes i → kind_at (terms_over s) (tree_at nodes i) ≡ Some k → IsTermIn s nodes k i
of_kind s lawful nodes i k h e =
    let own : kind_at (terms_over s) (tree_at nodes i) ≡ Some h.bare.0 = kind_is s lawful (tree_at nodes i) h.within.normal h.bare.0 h.bare.1 in
    let same : h.bare.0 ≡ k = cc in
    record { within = h.within; bare = subst (IsBareIn (terms_over s) (reading (theory_at s) (tree_at nodes i))) same h.bare.1 }

-- where one term is of the kind of another
pub same_kind : (s : SignatureOf) → IsLawful (terms_over s) → (nodes : List Node) (i j k : ℕ) → IsTermIn s nodes k j → IsTerm s nodes i → kind_at (terms_over s) (tree_at nodes i) ≡ kind_at (terms_over s) (tree_at nodes j) → IsTermIn s nodes k i
same_kind s lawful nodes i j k h t e = of_kind s lawful nodes i k t (e ∙ term_kind s lawful nodes k j h)

-- ---- operands

module _ (s : SignatureOf) (nodes : List Node) where
  bare_at : (ids : List ℕ) (ks : List ℕ) (i j : ℕ) → AreBareIn (terms_over s) (trees_of (map (reading (theory_at s)) (trees_at nodes ids))) ks → slice_get ids i ≡ Some j → (k : ℕ) × IsBareIn (terms_over s) (reading (theory_at s) (tree_at nodes j)) k
  bare_at [] ks i j all e = cc
  bare_at (x ∷ ids) [] i j all e = absurd all
  bare_at (x ∷ ids) (k ∷ ks) zero j all e = let same : x ≡ j = cc in (k, subst (λ z. IsBareIn (terms_over s) (reading (theory_at s) (tree_at nodes z)) k) same all.0)
  bare_at (x ∷ ids) (k ∷ ks) (suc i) j all e = bare_at ids ks i j all.1 e

  all_at : {A : Type 0} (P : A → Type 0) (xs : List A) (i : ℕ) (x : A) → All P xs → slice_get xs i ≡ Some x → P x
  all_at P [] i x all e = cc
  all_at P (y ∷ xs) zero x all e = let same : y ≡ x = cc in subst P same (All-head P y xs all)
  all_at P (y ∷ xs) (suc i) x all e = all_at P xs i x (All-tail P y xs all) e

  kind_in_place : (a : Bool) (f : ℕ) (ids : List ℕ) (i j : ℕ) → slice_get ids i ≡ Some j →
      MatchBool a ((2 ≤ length (trees_at nodes ids)) × All (λ t. IsBareIn (terms_over s) (reading (theory_at s) t) ((terms_over s).result f)) (trees_at nodes ids))
      (AreBareIn (terms_over s) (trees_of (map (reading (theory_at s)) (trees_at nodes ids))) ((terms_over s).arguments f)) →
      (k : ℕ) × IsBareIn (terms_over s) (reading (theory_at s) (tree_at nodes j)) k
  kind_in_place false f ids i j e h = bare_at ids ((terms_over s).arguments f) i j h e
  kind_in_place true f ids i j e h = ((terms_over s).result f, at_place ids i h.1 e)
    where
      at_place : (ids : List ℕ) (i : ℕ) → All (λ t. IsBareIn (terms_over s) (reading (theory_at s) t) ((terms_over s).result f)) (trees_at nodes ids) → slice_get ids i ≡ Some j →
          IsBareIn (terms_over s) (reading (theory_at s) (tree_at nodes j)) ((terms_over s).result f)
      at_place [] i all e = cc
      at_place (x ∷ ids) zero all e =
          let same : x ≡ j = cc in
          subst (λ z. IsBareIn (terms_over s) (reading (theory_at s) (tree_at nodes z)) ((terms_over s).result f)) same
          (All-head (λ t. IsBareIn (terms_over s) (reading (theory_at s) t) ((terms_over s).result f)) (tree_at nodes x) (trees_at nodes ids) all)
      at_place (x ∷ ids) (suc i) all e = at_place ids i (All-tail (λ t. IsBareIn (terms_over s) (reading (theory_at s) t) ((terms_over s).result f)) (tree_at nodes x) (trees_at nodes ids) all) e

  -- an operand is a term of some kind
  pub operand : (f : ℕ) (ids : List ℕ) (i j : ℕ) → AreUnder s nodes f ids → slice_get ids i ≡ Some j → (k : ℕ) × IsTermIn s nodes k j
  operand f ids i j under e =
      let own = kind_in_place (theory_at s f).assoc f ids i j e under.kinds in
      (own.0, record { within = all_at (StandsWithin (theory_at s) nodes) ids i j under.within e; bare = own.1 })

numbered : (ts : List TermId) (i : ℕ) (t : TermId) → slice_get ts i ≡ Some t → slice_get (numbers ts) i ≡ Some t.0
numbered [] i t e = cc
numbered (x ∷ ts) zero t e = let same : x ≡ t = cc in ap (λ y. Some y.0) same
numbered (x ∷ ts) (suc i) t e = numbered ts i t e

pub operand_known : (s : SignatureOf) (nodes : List Node) (f : ℕ) (ts : List TermId) (i : ℕ) (t : TermId) → AreKnownOperands s nodes f ts → slice_get ts i ≡ Some t → IsKnownTerm s nodes t.0
operand_known s nodes f ts i t h e =
    let own = operand s nodes f (numbers ts) i t.0 h.under (numbered ts i t e) in
    record { lawful = h.lawful; term = is_term s nodes own.0 t.0 own.1 }

pub operand_put : (s : SignatureOf) (nodes : List Node) (f : ℕ) (ts : List TermId) (i : ℕ) (t v : TermId) → AreKnownOperands s nodes f ts → slice_get ts i ≡ Some t → IsKnownTerm s nodes v.0 →
    kind_at (terms_over s) (tree_at nodes v.0) ≡ kind_at (terms_over s) (tree_at nodes t.0) → AreKnownOperands s nodes f (slice_set ts i v)
operand_put s nodes f ts i t v h e known same =
    let at = numbered ts i t e in
    let own = operand s nodes f (numbers ts) i t.0 h.under at in
    record {
      lawful = h.lawful;
      under = subst (AreUnder s nodes f) (sym (map-set (λ (x : TermId). x.0) ts i v))
          (under_put s nodes f own.0 (numbers ts) i 0 v.0 (slice_get_within (numbers ts) i t.0 at) (subst (IsTermIn s nodes own.0) (sym (get_or_from_slice_get (numbers ts) i t.0 0 at)) own.1)
          (same_kind s h.lawful nodes v.0 t.0 own.0 own.1 known.term same) h.under);
    }

-- ---- terms

-- a known term may be told
pub normal_term : (s : SignatureOf) (nodes : List Node) (i : ℕ) → IsKnownTerm s nodes i → IsNormalTerm s (tree_at nodes i)
normal_term s nodes i h = record {
  normal = h.term.within.normal;
  term = (h.term.bare, subst (λ t. IsWithin (theory_at s) t) (sym (norm-reading-is (theory_at s) h.lawful.theories (tree_at nodes i) h.term.within.normal)) h.term.within.within);
}
