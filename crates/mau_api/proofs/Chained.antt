-- The computed order of sorts is the order by chains of pairs.
use Rattle.std.proofs.Common.{◌≡◌, ◌↔◌, ◌⊎◌, inl, inr, ℕ, zero, suc, ◌<◌, ◌==◌, List, [], ◌∷◌, Bool, true, false, ◌||◌, ◌&&◌, length, get_or, refl, sym, ap, ◌∙◌, subst, arith, eq-eqb, eqb-true}
use Rattle.mau_poset.specs.Order.{Hierarchy, Chain, no_step, step, Leads, IsAtOrBelow, kind_of}
use Rattle.mau_api.specs.SortLists.{is_chained, is_at_or_below}

pub one_is : (a b : Bool) → (a || b) ≡ true → (a ≡ true) ⊎ (b ≡ true)
one_is true b e = inl refl
one_is false b e = inr e

pub both_are : (a b : Bool) → (a && b) ≡ true → (a ≡ true) × (b ≡ true)
both_are true b e = (refl, e)
both_are false b e = cc

pub or_first : (a b : Bool) → a ≡ true → (a || b) ≡ true
or_first a b e = ap (λ w. w || b) e

pub or_second : (a b : Bool) → b ≡ true → (a || b) ≡ true
or_second true b e = refl
or_second false b e = e

pub and_so : (a b : Bool) → a ≡ true → b ≡ true → (a && b) ≡ true
and_so a b e h = ap (λ w. w && b) e ∙ h

skip_pair : (p : ℕ × ℕ) (ps : List (ℕ × ℕ)) (a b : ℕ) → is_chained ps a b ≡ true → is_chained (p ∷ ps) a b ≡ true
skip_pair p ps a b e = or_first (is_chained ps a b) (is_chained ps a p.0 && is_chained ps p.1 b) e

by_pair : (p : ℕ × ℕ) (ps : List (ℕ × ℕ)) (a b : ℕ) → is_chained ps a p.0 ≡ true → is_chained ps p.1 b ≡ true → is_chained (p ∷ ps) a b ≡ true
by_pair p ps a b e f = or_second (is_chained ps a b) (is_chained ps a p.0 && is_chained ps p.1 b) (and_so (is_chained ps a p.0) (is_chained ps p.1 b) e f)

cases : (p : ℕ × ℕ) (ps : List (ℕ × ℕ)) (a b : ℕ) → is_chained (p ∷ ps) a b ≡ true → (is_chained ps a b ≡ true) ⊎ ((is_chained ps a p.0 ≡ true) × (is_chained ps p.1 b ≡ true))
cases p ps a b e = by (one_is (is_chained ps a b) (is_chained ps a p.0 && is_chained ps p.1 b) e)
  where
    by : (is_chained ps a b ≡ true) ⊎ ((is_chained ps a p.0 && is_chained ps p.1 b) ≡ true) → (is_chained ps a b ≡ true) ⊎ ((is_chained ps a p.0 ≡ true) × (is_chained ps p.1 b ≡ true))
    by (inl h) = inl h
    by (inr h) = inr (both_are (is_chained ps a p.0) (is_chained ps p.1 b) h)

pub chained_itself : (ps : List (ℕ × ℕ)) (a : ℕ) → is_chained ps a a ≡ true
chained_itself [] a = eq-eqb a a refl
chained_itself (p ∷ ps) a = skip_pair p ps a a (chained_itself ps a)

-- chains join
pub chained_both : (ps : List (ℕ × ℕ)) (a b c : ℕ) → is_chained ps a b ≡ true → is_chained ps b c ≡ true → is_chained ps a c ≡ true
chained_both [] a b c e f = subst (λ z. (a == z) ≡ true) (eqb-true b c f) e
chained_both (p ∷ ps) a b c e f = by (chained_both ps) (cases p ps a b e) (cases p ps b c f)
  where
    by : ((x y z : ℕ) → is_chained ps x y ≡ true → is_chained ps y z ≡ true → is_chained ps x z ≡ true) →
        (is_chained ps a b ≡ true) ⊎ ((is_chained ps a p.0 ≡ true) × (is_chained ps p.1 b ≡ true)) → (is_chained ps b c ≡ true) ⊎ ((is_chained ps b p.0 ≡ true) × (is_chained ps p.1 c ≡ true)) → is_chained (p ∷ ps) a c ≡ true
    by join (inl h) (inl k) = skip_pair p ps a c (join a b c h k)
    by join (inl h) (inr k) = by_pair p ps a c (join a b p.0 h k.0) k.1
    by join (inr h) (inl k) = by_pair p ps a c h.0 (join p.1 b c h.1 k)
    by join (inr h) (inr k) = by_pair p ps a c h.0 k.1

pub chained_pair : (ps : List (ℕ × ℕ)) (i : ℕ) (a b : ℕ) → i < length ps → get_or ps i (a, b) ≡ (a, b) → is_chained ps a b ≡ true
chained_pair [] i a b h e = absurd (omega (arith, h))
chained_pair (p ∷ ps) zero a b h e =
    subst (λ q. is_chained (q ∷ ps) a b ≡ true) (sym e) (by_pair (a, b) ps a b (chained_itself ps a) (chained_itself ps b))
chained_pair (p ∷ ps) (suc i) a b h e = skip_pair p ps a b (chained_pair ps i a b (omega (arith, h)) e)

pub chain_chained : (ps : List (ℕ × ℕ)) (a b : ℕ) → Chain (Leads ps) a b → is_chained ps a b ≡ true
chain_chained ps a b no_step = chained_itself ps a
chain_chained ps a b (step {b = c} s c') = chained_both ps a c b (chained_pair ps s.0 a c s.1 s.2) (chain_chained ps c b c')

weaker : (p : ℕ × ℕ) (ps : List (ℕ × ℕ)) (a b : ℕ) → Chain (Leads ps) a b → Chain (Leads (p ∷ ps)) a b
weaker p ps a b no_step = no_step
weaker p ps a b (step {b = c} s c') = step (suc s.0, omega (arith, s.1), s.2) (weaker p ps c b c')

joined : (ps : List (ℕ × ℕ)) (a b c : ℕ) → Chain (Leads ps) a b → Chain (Leads ps) b c → Chain (Leads ps) a c
joined ps a b c no_step d = d
joined ps a b c (step {b = e} s x) d = step s (joined ps e b c x d)

pub chained_chain : (ps : List (ℕ × ℕ)) (a b : ℕ) → is_chained ps a b ≡ true → Chain (Leads ps) a b
chained_chain [] a b e = subst (λ z. Chain (Leads []) a z) (eqb-true a b e) no_step
chained_chain (p ∷ ps) a b e = by (chained_chain ps) (cases p ps a b e)
  where
    first : Leads (p ∷ ps) p.0 p.1
    first = (0, omega arith, refl)

    by : ((x y : ℕ) → is_chained ps x y ≡ true → Chain (Leads ps) x y) → (is_chained ps a b ≡ true) ⊎ ((is_chained ps a p.0 ≡ true) × (is_chained ps p.1 b ≡ true)) → Chain (Leads (p ∷ ps)) a b
    by f (inl h) = weaker p ps a b (f a b h)
    by f (inr h) = joined (p ∷ ps) a p.0 b (weaker p ps a p.0 (f a p.0 h.0)) (step first (weaker p ps p.1 b (f p.1 b h.1)))

-- a is at or below b
pub at_or_below : (h : Hierarchy) (a b : ℕ) → (is_at_or_below h a b ≡ true) ↔ IsAtOrBelow h a b
at_or_below h a b = ((λ e. to (one_is (is_chained h.pairs a b) (kind_of h a == b) e)), from)
  where
    to : (is_chained h.pairs a b ≡ true) ⊎ ((kind_of h a == b) ≡ true) → IsAtOrBelow h a b
    to (inl e) = inl (chained_chain h.pairs a b e)
    to (inr e) = inr (eqb-true (kind_of h a) b e)

    from : IsAtOrBelow h a b → is_at_or_below h a b ≡ true
    from (inl c) = or_first (is_chained h.pairs a b) (kind_of h a == b) (chain_chained h.pairs a b c)
    from (inr e) = or_second (is_chained h.pairs a b) (kind_of h a == b) (eq-eqb (kind_of h a) b e)
