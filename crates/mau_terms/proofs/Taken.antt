-- What a subject can take depends on normal forms alone, and is finite.
use Rattle.std.proofs.Common.{◌≡◌, ℕ, ◌≤◌, suc, List, [], ◌∷◌, Bool, true, false, inl, inr, refl, sym, ◌∙◌, ap, ap₂, subst, map, length, arith}
use Rattle.mau_terms.specs.Tree.{Tree, variable, numeral, apply, trees_of}
use Rattle.mau_terms.specs.Norm.{build, norm}
use Rattle.mau_terms.specs.Lawful.{AreLawful}
use Rattle.mau_terms.specs.Bare.{TermSignature, IsBareIn, AreBareIn, IsBare, IsLawful}
use Rattle.mau_terms.specs.Finite.{IsIn, parts_under}
use Rattle.mau_terms.specs.Reading.{nest_from, nest, reading}
use Rattle.mau_terms.specs.CanTake.{CanTake, CanTakeNormal}
use Rattle.mau_terms.specs.Laws.{AreNorms, CanTakeByNorms, TakenAreFinite}
use Rattle.mau_terms.specs.declared.theory.Theory.{Theory}
use Rattle.mau_terms.proofs.Induction.{norm-node}
use Rattle.mau_terms.proofs.Normal.{IsNormal, norm_normal, norm-norm}
use Rattle.mau_terms.proofs.Pieces.{Each}
use Rattle.mau_terms.proofs.Chains.{chain_end, first_bare}
use Rattle.mau_terms.proofs.Leads.{two_bare, two_made}
use Rattle.mau_terms.proofs.Readings.{lead_norm}
use Rattle.mau_terms.proofs.Law.{equal_norm, norm_equal}
use Rattle.mau_terms.proofs.Finite.{in_map, part_of_built}
use Rattle.mau_terms.proofs.Ties.{lists_nest}

-- ---- kinds

pub one_kind : (s : TermSignature) (t : Tree) (k m : ℕ) → IsBareIn s t k → IsBareIn s t m → k ≡ m
one_kind s (variable i r) k m b c = sym b.2 ∙ c.2
one_kind s (numeral n) k m b c = let p = b.1 in let q = c.1 in cc
one_kind s (apply f ts) k m b c = sym b.1 ∙ c.1

-- equal terms have one kind
pub equal_kind : (s : TermSignature) → IsLawful s → (t u : Tree) (k m : ℕ) → IsBareIn s t k → IsBareIn s u m → norm s.theory t ≡ norm s.theory u → k ≡ m
equal_kind s lawful t u k m b c e =
    let R : Tree → Tree = (λ v. reading s.theory (norm s.theory v)) in
    let p : IsBareIn s (R t) k = chain_end (lead_norm s lawful k t b) in
    let q : IsBareIn s (R u) m = chain_end (lead_norm s lawful m u c) in
    one_kind s (R u) k m (subst (λ v. IsBareIn s (reading s.theory v) k) e p) q

-- ---- one argument in place of an equal one

module _ (th : ℕ → Theory) (v : Tree) where
  abbrev exchanged : (us : List Tree) → IsIn (norm th v) (map (norm th) us) → List Tree
  exchanged [] h = []
  exchanged (u ∷ us) (inl e) = v ∷ us
  exchanged (u ∷ us) (inr h) = u ∷ exchanged us h

  in_exchanged : (us : List Tree) (h : IsIn (norm th v) (map (norm th) us)) → IsIn v (exchanged us h)
  in_exchanged [] h = absurd h
  in_exchanged (u ∷ us) (inl e) = inl refl
  in_exchanged (u ∷ us) (inr h) = inr (in_exchanged us h)

  norms-exchanged : (us : List Tree) (h : IsIn (norm th v) (map (norm th) us)) → map (norm th) (exchanged us h) ≡ map (norm th) us
  norms-exchanged [] h = refl
  norms-exchanged (u ∷ us) (inl e) = ap (λ w. w ∷ map (norm th) us) e
  norms-exchanged (u ∷ us) (inr h) = ap (λ ws. norm th u ∷ ws) (norms-exchanged us h)

  length-exchanged : (us : List Tree) (h : IsIn (norm th v) (map (norm th) us)) → length (exchanged us h) ≡ length us
  length-exchanged [] h = refl
  length-exchanged (u ∷ us) (inl e) = refl
  length-exchanged (u ∷ us) (inr h) = ap suc (length-exchanged us h)

module _ (s : TermSignature) (lawful : IsLawful s) (v : Tree) (m : ℕ) (bare : IsBareIn s v m) where
  -- v in place of an equal term
  abbrev in_place : (u : Tree) (k : ℕ) → norm s.theory v ≡ norm s.theory u → IsBareIn s u k → IsBareIn s v k
  in_place u k e b = subst (IsBareIn s v) (equal_kind s lawful v u m k bare b e) bare

  exchanged_bare : (us : List Tree) (ks : List ℕ) (h : IsIn (norm s.theory v) (map (norm s.theory) us)) → AreBareIn s (trees_of us) ks → AreBareIn s (trees_of (exchanged s.theory v us h)) ks
  exchanged_bare [] ks h b = b
  exchanged_bare (u ∷ us) [] h b = absurd b
  exchanged_bare (u ∷ us) (k ∷ ks) (inl e) b = (in_place u k e b.0, b.1)
  exchanged_bare (u ∷ us) (k ∷ ks) (inr h) b = (b.0, exchanged_bare us ks h b.1)

  module _ (f : ℕ) (a : (s.theory f).assoc ≡ true) where
    nested_bare : (u : Tree) (us : List Tree) (k : ℕ) (h : IsIn (norm s.theory v) (map (norm s.theory) (u ∷ us))) → IsBareIn s (nest_from f u us) k → IsBareIn s (nest true f (exchanged s.theory v (u ∷ us) h)) k
    nested_bare u [] k (inl e) b = in_place u k e b
    nested_bare u [] k (inr h) b = absurd h
    nested_bare u (w ∷ us) k (inl e) b =
        let r = s.result f in
        let parts = two_bare s f k r r u (nest_from f w us) (lawful.assoc_kinds f a) b in
        two_made s f k r r u (nest_from f w us) v (nest_from f w us) (lawful.assoc_kinds f a) b (in_place u r e parts.0) parts.1
    nested_bare u (w ∷ us) k (inr (inl e)) b =
        let r = s.result f in
        let parts = two_bare s f k r r u (nest_from f w us) (lawful.assoc_kinds f a) b in
        two_made s f k r r u (nest_from f w us) u (nest_from f v us) (lawful.assoc_kinds f a) b parts.0 (nested_bare w us r (inl e) parts.1)
    nested_bare u (w ∷ us) k (inr (inr h)) b =
        let r = s.result f in
        let parts = two_bare s f k r r u (nest_from f w us) (lawful.assoc_kinds f a) b in
        two_made s f k r r u (nest_from f w us) u (nest_from f w (exchanged s.theory v us h)) (lawful.assoc_kinds f a) b parts.0 (nested_bare w us r (inr h) parts.1)

  nest_bare : (c : Bool) (f : ℕ) → (s.theory f).assoc ≡ c → (us : List Tree) (h : IsIn (norm s.theory v) (map (norm s.theory) us)) → IsBare s (nest c f us) → IsBare s (nest c f (exchanged s.theory v us h))
  nest_bare true f a [] h b = absurd h
  nest_bare true f a (u ∷ us) h b = (b.0, nested_bare f a u us b.0 h b.1)
  nest_bare false f a us h b = (b.0, (b.1.0, b.1.1, exchanged_bare us (s.arguments f) h b.1.2))

-- ---- the normal form of a nested list

module _ (th : ℕ → Theory) where
  nest_from_norms : (f : ℕ) (u w : Tree) (us ws : List Tree) → map (norm th) (u ∷ us) ≡ map (norm th) (w ∷ ws) → norm th (nest_from f u us) ≡ norm th (nest_from f w ws)
  nest_from_norms f u w [] [] e = cc
  nest_from_norms f u w [] (w' ∷ ws) e = cc
  nest_from_norms f u w (u' ∷ us) [] e = cc
  nest_from_norms f u w (u' ∷ us) (w' ∷ ws) e =
      let first : norm th u ≡ norm th w = cc in
      let rest : map (norm th) (u' ∷ us) ≡ map (norm th) (w' ∷ ws) = cc in
      ap₂ (λ x y. build (th f) f (x ∷ y ∷ [])) first (nest_from_norms f u' w' us ws rest)

  pub nest_norms : (c : Bool) (f : ℕ) (us ws : List Tree) → map (norm th) us ≡ map (norm th) ws → norm th (nest c f us) ≡ norm th (nest c f ws)
  nest_norms true f [] [] e = refl
  nest_norms true f [] (w ∷ ws) e = cc
  nest_norms true f (u ∷ us) [] e = cc
  nest_norms true f (u ∷ us) (w ∷ ws) e = nest_from_norms f u w us ws e
  nest_norms false f us ws e = norm-node th f us ∙ ap (build (th f) f) e ∙ sym (norm-node th f ws)

  module _ (lawful : AreLawful th) where
    pub are_norms : (ts : List Tree) → AreNorms th (map (norm th) ts)
    are_norms [] = tt
    are_norms (t ∷ ts) = (norm-norm th lawful t, are_norms ts)

    pub are_normal : (ts : List Tree) → Each (IsNormal th) (map (norm th) ts)
    are_normal [] = tt
    are_normal (t ∷ ts) = (norm_normal th lawful t, are_normal ts)

    -- two or more, nested, have the normal form of the one list
    pub norm-nest_from : (f : ℕ) → (th f).assoc ≡ true → (u w : Tree) (us : List Tree) → norm th (nest_from f u (w ∷ us)) ≡ build (th f) f (map (norm th) (u ∷ w ∷ us))
    norm-nest_from f a u w [] = refl
    norm-nest_from f a u w (w' ∷ us) =
        ap (λ x. build (th f) f (norm th u ∷ x ∷ [])) (norm-nest_from f a w w' us)
        ∙ sym (lists_nest th lawful f a (norm th u) (norm th w) (map (norm th) (w' ∷ us)) (are_norms (u ∷ w ∷ w' ∷ us)))

    pub norm-nest : (c : Bool) (f : ℕ) → (th f).assoc ≡ c → (us : List Tree) → (c ≡ true → 2 ≤ length us) → norm th (nest c f us) ≡ build (th f) f (map (norm th) us)
    norm-nest true f a [] h = absurd (omega (arith, h refl))
    norm-nest true f a (u ∷ []) h = absurd (omega (arith, h refl))
    norm-nest true f a (u ∷ w ∷ us) h = norm-nest_from f a u w us
    norm-nest false f a us h = norm-node th f us

-- ---- the laws

to_normal : (s : TermSignature) → IsLawful s → (f : ℕ) (t v : Tree) → CanTake s f t v → CanTakeNormal s f (norm s.theory t) (norm s.theory v)
to_normal s lawful f t v x = record {
  arguments = x.arguments;
  two_at_least = x.two_at_least;
  bare = first_bare x.equal;
  taken = in_map (norm s.theory) v x.arguments x.taken;
  whole = equal_norm s lawful x.equal;
}

from_normal : (s : TermSignature) → IsLawful s → (f : ℕ) (t v : Tree) → IsBare s t → IsBare s v → CanTakeNormal s f (norm s.theory t) (norm s.theory v) → CanTake s f t v
from_normal s lawful f t v bt bv x =
    let th = s.theory in
    let us = exchanged th v x.arguments x.taken in
    let c = (th f).assoc in
    let many : 2 ≤ length x.arguments → 2 ≤ length us = (λ h. omega (arith, h, length-exchanged th v x.arguments x.taken)) in
    let bare : IsBare s (nest c f us) = nest_bare s lawful v bv.0 bv.1 c f refl x.arguments x.taken x.bare in
    let same : norm th (nest c f us) ≡ norm th t = nest_norms th c f us x.arguments (norms-exchanged th v x.arguments x.taken) ∙ x.whole in
    record {
      arguments = us;
      two_at_least = λ a. many (x.two_at_least a);
      taken = in_exchanged th v x.arguments x.taken;
      equal = norm_equal s lawful (nest c f us) t bare bt same;
    }

pub can_take_by_norms : CanTakeByNorms
can_take_by_norms s lawful f t v bt bv = (to_normal s lawful f t v, from_normal s lawful f t v bt bv)

-- a normal form that can be taken is a part of the subject's
pub taken_is_part : (s : TermSignature) → IsLawful s → (f : ℕ) (t v : Tree) → CanTakeNormal s f t v → IsIn v (parts_under s.theory f t)
taken_is_part s lawful f t v x =
    let th = s.theory in
    let zs = map (norm th) x.arguments in
    let e : build (th f) f zs ≡ t = sym (norm-nest th lawful.theories (th f).assoc f refl x.arguments x.two_at_least) ∙ x.whole in
    subst (λ w. IsIn v (parts_under th f w)) e (part_of_built th f v zs (are_normal th lawful.theories x.arguments) x.taken)

pub taken_are_finite : TakenAreFinite
taken_are_finite s lawful f t = (
  parts_under s.theory f (norm s.theory t),
  λ v x. taken_is_part s lawful f (norm s.theory t) (norm s.theory v) (to_normal s lawful f t v x),
)
