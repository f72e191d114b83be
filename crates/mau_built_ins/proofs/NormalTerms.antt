-- Normal forms within the limits, and what they are as bare terms.
use Rattle.std.proofs.Common.{◌≡◌, ℕ, List, [], ◌∷◌, map, refl, ap₂, subst}
use Rattle.std.specs.Prelude.{All}
use Rattle.std.proofs.lemmas.List.Elements.{All-nil, All-cons, All-head, All-tail}
use Rattle.mau_terms.specs.Tree.{Tree}
use Rattle.mau_terms.specs.Norm.{norm}
use Rattle.mau_terms.specs.Reading.{reading}
use Rattle.mau_terms.specs.Bare.{IsBareIn, IsLawful}
use Rattle.mau_terms.proofs.Chains.{chain_end}
use Rattle.mau_terms.proofs.Readings.{lead_norm}
use Rattle.mau_terms.proofs.Normal.{IsNormal, norm_normal}
use Rattle.mau_evaluation.proofs.BareTerms.{norm-reading-is}
use Rattle.mau_signature.specs.Signature.{SignatureOf, theory_at, terms_over}
use Rattle.mau_api.specs.Terms.{IsBareWithin, IsNormalTerm}

module _ (s : SignatureOf) (lawful : IsLawful (terms_over s)) where
  -- a bare term's normal form, read as a bare term, lies in its kind
  pub read_bare : (t : Tree) (k : ℕ) → IsBareIn (terms_over s) t k → IsBareIn (terms_over s) (reading (theory_at s) (norm (theory_at s) t)) k
  read_bare t k b = chain_end (lead_norm (terms_over s) lawful k t b)

  pub normal_of : (t : Tree) → IsNormalTerm s t → IsNormal (theory_at s) t
  normal_of t n = subst (IsNormal (theory_at s)) n.normal (norm_normal (theory_at s) lawful.theories t)

  pub read_norm : (t : Tree) → IsNormalTerm s t → norm (theory_at s) (reading (theory_at s) t) ≡ t
  read_norm t n = norm-reading-is (theory_at s) lawful.theories t n.normal

  pub read_norms : (ts : List Tree) → All (IsNormalTerm s) ts → map (norm (theory_at s)) (map (reading (theory_at s)) ts) ≡ ts
  read_norms [] n = refl
  read_norms (t ∷ ts) n = ap₂ (λ u us. u ∷ us) (read_norm t (All-head (IsNormalTerm s) t ts n)) (read_norms ts (All-tail (IsNormalTerm s) t ts n))

  pub own_norms : (ts : List Tree) → All (IsNormalTerm s) ts → map (norm (theory_at s)) ts ≡ ts
  own_norms [] n = refl
  own_norms (t ∷ ts) n = ap₂ (λ u us. u ∷ us) (All-head (IsNormalTerm s) t ts n).normal (own_norms ts (All-tail (IsNormalTerm s) t ts n))

  pub read_terms : (ts : List Tree) → All (IsNormalTerm s) ts → All (IsBareWithin s) (map (reading (theory_at s)) ts)
  read_terms [] n = All-nil (IsBareWithin s)
  read_terms (t ∷ ts) n =
      All-cons (IsBareWithin s) (reading (theory_at s) t) (map (reading (theory_at s)) ts) (All-head (IsNormalTerm s) t ts n).term (read_terms ts (All-tail (IsNormalTerm s) t ts n))
