-- Kinds of terms that are taken apart and built again.
use Rattle.std.proofs.Common.{◌≡◌, ℕ, zero, suc, ◌<◌, ◌≤◌, List, [], ◌∷◌, Bool, true, false, All, Some, map, length, get_or, slice_get, ◌&&◌, refl, sym, ap, ap₂, ◌∙◌, subst, arith}
use Rattle.std.proofs.Math.ListN.{set, length-set, get_or-map}
use Rattle.std.specs.Bool.{MatchBool}
use Rattle.std.proofs.lemmas.List.{map-set, length-map}
use Rattle.std.proofs.lemmas.List.Elements.{All-set, All-head, All-tail, All-get_or}
use Rattle.std.proofs.lemmas.Bool.{lt-ltb, le-leb}
use Rattle.mau_terms.specs.Tree.{Tree, node, trees_of}
use Rattle.mau_terms.specs.Norm.{norm}
use Rattle.mau_terms.specs.Bare.{TermSignature, IsBareIn, AreBareIn, IsLawful}
use Rattle.mau_terms.specs.Reading.{nest, reading}
use Rattle.mau_terms.specs.Laws.{AreNorms}
use Rattle.mau_terms.specs.declared.theory.Theory.{Theory}
use Rattle.mau_terms.proofs.Chains.{last_bare}
use Rattle.mau_terms.proofs.Law.{equal_norm, equal_reading}
use Rattle.mau_terms.proofs.Taken.{one_kind, equal_kind}
use Rattle.mau_terms.proofs.Wholes.{reading_top}
use Rattle.mau_signature.specs.Signature.{SignatureOf, IsOperator, theory_at, terms_over}
use Rattle.mau_store.specs.Node.{Node, AreNodes, Extends, operator_node}
use Rattle.mau_store.specs.Trees.{tree_at, trees_at}
use Rattle.mau_store.proofs.Standing.{tree_of_node, tree_at-extends}
use Rattle.mau_store.proofs.Growth.{trees_at-extends}
use Rattle.mau_canon.specs.Standing.{StandsWithin, StandWithin}
use Rattle.mau_canon.proofs.Standing.{arguments_stand_within, list_stands_for_nested, stands_within_extended, stand_within_extended, stand_there}
use Rattle.mau_listing.proofs.Answered.{normal_is}
use Rattle.mau_evaluation.proofs.BareTerms.{norms-readings}
use Rattle.mau_trial.specs.Arguments.{AreArguments}
use Rattle.mau_trial.proofs.OfKind.{two_of_kind, bare_operator, bare_arguments}
use Rattle.mau_terms.specs.Bare.{IsBare}
use Rattle.mau_api.specs.Terms.{IsTerm}
use Rattle.mau_reduce.specs.Kinds.{IsTermIn, AreUnder}

-- the reading of a normal form is of the kind of each bare term with this normal form
pub kind_of_norm : (s : TermSignature) → IsLawful s → (b : Tree) (k : ℕ) → IsBareIn s b k → IsBareIn s (reading s.theory (norm s.theory b)) k
kind_of_norm s lawful b k bare =
    let e = equal_reading s lawful b (k, bare) in
    let r = last_bare e in
    subst (IsBareIn s (reading s.theory (norm s.theory b))) (sym (equal_kind s lawful b (reading s.theory (norm s.theory b)) k r.0 bare r.1 (equal_norm s lawful e))) r.1

-- the numbers stand for normal forms
pub norms_of : (th : ℕ → Theory) (nodes : List Node) (ids : List ℕ) → StandWithin th nodes ids → AreNorms th (trees_at nodes ids)
norms_of th nodes [] h = tt
norms_of th nodes (i ∷ ids) h = ((All-head (StandsWithin th nodes) i ids h).normal, norms_of th nodes ids (All-tail (StandsWithin th nodes) i ids h))

module _ (s : SignatureOf) (lawful : IsLawful (terms_over s)) where
  abbrev th : ℕ → Theory
  th = theory_at s

  -- the arguments of a term
  pub under_term : (nodes : List Node) → AreNodes nodes → (i f k : ℕ) (ids : List ℕ) → slice_get nodes i ≡ Some (operator_node f ids) → IsTermIn s nodes k i →
      AreUnder s nodes f ids × ((terms_over s).result f ≡ k)
  under_term nodes are i f k ids at term =
      let ts = trees_at nodes ids in
      let e : tree_at nodes i ≡ node f ts = tree_of_node nodes are i (operator_node f ids) at in
      let n : norm th (node f ts) ≡ node f ts = subst (λ t. norm th t ≡ t) e term.within.normal in
      let b : IsBareIn (terms_over s) (reading th (node f ts)) k = subst (λ t. IsBareIn (terms_over s) (reading th t) k) e term.bare in (
        record {
          operator = bare_operator s lawful f ts n (k, b);
          within = arguments_stand_within th lawful.theories nodes are i (operator_node f ids) at term.within;
          kinds = bare_arguments s lawful f ts n (k, b);
        },
        (reading_top (terms_over s) f (trees_of ts) k (normal_is th lawful.theories (node f ts) n) b).1,
      )

  -- what is built over arguments
  nested_bare : (f : ℕ) (ts : List Tree) → (terms_over s).has_operator f ≡ true → AreArguments s f ts → IsBareIn (terms_over s) (nest (th f).assoc f (map (reading th) ts)) ((terms_over s).result f)
  nested_bare f ts op args = by (th f).assoc refl args
    where
      by : (a : Bool) → (th f).assoc ≡ a
          → MatchBool a ((2 ≤ length ts) × All (λ t. IsBareIn (terms_over s) (reading th t) ((terms_over s).result f)) ts) (AreBareIn (terms_over s) (trees_of (map (reading th) ts)) ((terms_over s).arguments f))
          → IsBareIn (terms_over s) (nest a f (map (reading th) ts)) ((terms_over s).result f)
      by false e h = (op, refl, h)
      by true e h = two_of_kind (terms_over s) lawful f op e (reading th) ts h.0 h.1

  has_operator : (f : ℕ) → IsOperator s f → (terms_over s).has_operator f ≡ true
  has_operator f h = ap₂ (λ a b. a && b) (lt-ltb 0 f h.0) (le-leb f (length s.declarations) h.1)

  pub built_kind : (f : ℕ) (ts : List Tree) → (terms_over s).has_operator f ≡ true → AreNorms th ts → AreArguments s f ts → IsBareIn (terms_over s) (reading th (norm th (node f ts))) ((terms_over s).result f)
  built_kind f ts op norms args =
      let rs = map (reading th) ts in
      let b = nested_bare f ts op args in
      let e : norm th (node f ts) ≡ norm th (nest (th f).assoc f rs)
      = ap (λ us. norm th (node f us)) (sym (norms-readings th lawful.theories ts norms)) ∙ list_stands_for_nested th lawful.theories f rs in
      subst (λ t. IsBareIn (terms_over s) (reading th t) ((terms_over s).result f)) (sym e) (kind_of_norm (terms_over s) lawful (nest (th f).assoc f rs) ((terms_over s).result f) b)

  pub built_in_kind : (nodes : List Node) (f : ℕ) (ids : List ℕ) → AreUnder s nodes f ids → IsBareIn (terms_over s) (reading th (norm th (node f (trees_at nodes ids)))) ((terms_over s).result f)
  built_in_kind nodes f ids under = built_kind f (trees_at nodes ids) (has_operator f under.operator) (norms_of th nodes ids under.within) under.kinds

-- ---- an argument with another one of its kind in its place

module _ (s : TermSignature) (R : Tree → Tree) (k : ℕ) (v : Tree) where
  put_bare : (ts : List Tree) (ks : List ℕ) (i : ℕ) (d : Tree) → i < length ts → IsBareIn s (R (get_or ts i d)) k → IsBareIn s (R v) k → AreBareIn s (trees_of (map R ts)) ks → AreBareIn s (trees_of (map R (set ts i v))) ks
  put_bare [] ks i d h b c all = all
  put_bare (t ∷ ts) [] i d h b c all = absurd all
  put_bare (t ∷ ts) (j ∷ ks) zero d h b c all = (subst (IsBareIn s (R v)) (one_kind s (R t) k j b all.0) c, all.1)
  put_bare (t ∷ ts) (j ∷ ks) (suc i) d h b c all = (all.0, put_bare ts ks i d (omega arith) b c all.1)

  put_all : (r : ℕ) (ts : List Tree) (i : ℕ) (d : Tree) → i < length ts → IsBareIn s (R (get_or ts i d)) k → IsBareIn s (R v) k → All (λ t. IsBareIn s (R t) r) ts → All (λ t. IsBareIn s (R t) r) (set ts i v)
  put_all r ts i d h b c all = All-set (λ t. IsBareIn s (R t) r) ts i v (subst (IsBareIn s (R v)) (one_kind s (R (get_or ts i d)) k r b (All-get_or (λ t. IsBareIn s (R t) r) ts i d h all)) c) all

pub under_put : (s : SignatureOf) (nodes : List Node) (f k : ℕ) (ids : List ℕ) (i d v : ℕ) → i < length ids → IsTermIn s nodes k (get_or ids i d) → IsTermIn s nodes k v → AreUnder s nodes f ids → AreUnder s nodes f (set ids i v)
under_put s nodes f k ids i d v h old new under = record {
  operator = under.operator;
  within = All-set (StandsWithin (theory_at s) nodes) ids i v new.within under.within;
  kinds = subst (λ ts. AreArguments s f ts) (sym (map-set (tree_at nodes) ids i v)) (by (theory_at s f).assoc under.kinds);
}
  where
    R : Tree → Tree
    R = reading (theory_at s)

    ts : List Tree
    ts = trees_at nodes ids

    low : i < length ts
    low = omega (arith, h, length-map ids (tree_at nodes))

    first : IsBareIn (terms_over s) (R (get_or ts i (tree_at nodes d))) k
    first = subst (λ t. IsBareIn (terms_over s) (R t) k) (sym (get_or-map (tree_at nodes) ids i d)) old.bare

    by : (a : Bool)
        → MatchBool a ((2 ≤ length ts) × All (λ t. IsBareIn (terms_over s) (R t) ((terms_over s).result f)) ts) (AreBareIn (terms_over s) (trees_of (map R ts)) ((terms_over s).arguments f))
        → MatchBool a ((2 ≤ length (set ts i (tree_at nodes v))) × All (λ t. IsBareIn (terms_over s) (R t) ((terms_over s).result f)) (set ts i (tree_at nodes v)))
        (AreBareIn (terms_over s) (trees_of (map R (set ts i (tree_at nodes v)))) ((terms_over s).arguments f))
    by true all = (omega (arith, all.0, length-set ts i (tree_at nodes v)), put_all (terms_over s) R k (tree_at nodes v) ((terms_over s).result f) ts i (tree_at nodes d) low first new.bare all.1)
    by false all = put_bare (terms_over s) R k (tree_at nodes v) ts ((terms_over s).arguments f) i (tree_at nodes d) low first new.bare all

-- ---- in a store that grows

pub tree_kept : (th : ℕ → Theory) (old new : List Node) (i : ℕ) → Extends old new → StandsWithin th old i → tree_at new i ≡ tree_at old i
tree_kept th old new i x h = tree_at-extends old new i x h.there

pub term_kept : (s : SignatureOf) (old new : List Node) (k i : ℕ) → Extends old new → IsTermIn s old k i → IsTermIn s new k i
term_kept s old new k i x h = record {
  within = stands_within_extended (theory_at s) old new x i h.within;
  bare = subst (λ t. IsBareIn (terms_over s) (reading (theory_at s) t) k) (sym (tree_kept (theory_at s) old new i x h.within)) h.bare;
}

pub trees_kept : (th : ℕ → Theory) (old new : List Node) (ids : List ℕ) → Extends old new → StandWithin th old ids → trees_at new ids ≡ trees_at old ids
trees_kept th old new ids x h = trees_at-extends old new ids x (stand_there th old ids h)

pub under_kept : (s : SignatureOf) (old new : List Node) (f : ℕ) (ids : List ℕ) → Extends old new → AreUnder s old f ids → AreUnder s new f ids
under_kept s old new f ids x h = record {
  operator = h.operator;
  within = stand_within_extended (theory_at s) old new ids x h.within;
  kinds = subst (AreArguments s f) (sym (trees_kept (theory_at s) old new ids x h.within)) h.kinds;
}

pub is_term_kept : (s : SignatureOf) (old new : List Node) (i : ℕ) → Extends old new → IsTerm s old i → IsTerm s new i
is_term_kept s old new i x h = record {
  within = stands_within_extended (theory_at s) old new x i h.within;
  bare = subst (λ t. IsBare (terms_over s) (reading (theory_at s) t)) (sym (tree_kept (theory_at s) old new i x h.within)) h.bare;
}
