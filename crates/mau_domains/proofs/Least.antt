-- The least of some values, and lists that hold it.
use Rattle.std.proofs.Common.{◌≡◌, ℕ, List, [], ◌∷◌, ◌++◌, Bool, true, false, if◌then◌else◌, Option, Some, None, inl, inr, ◌⊎◌, refl, sym, ◌∙◌, ap, subst}
use Rattle.std.specs.declared.cmp.Ordering.{Ordering}
use Rattle.std.specs.declared.cmp.Ordering.TheVariants.{Less, Equal, Greater}
use Rattle.std.specs.Ordering.{is_lt}
use Rattle.std.specs.Cmp.{IsTotalOrder}
use Rattle.mau_terms.specs.Finite.{IsIn}
use Rattle.mau_terms.proofs.Finite.{in_left, in_right}
use Rattle.mau_domains.specs.Search.{IsLeastOrNone, by_answer, first_of}
use Rattle.mau_domains.specs.Nearest.{only_behind, nearest_of, HoldsNext}
use Rattle.mau_domains.proofs.Merge.{onward, first_of_two}

abbrev pub Given : {V : Type 0} → (V → Type 0) → Option V → Type 0
Given P None = Unit {0}
Given P (Some v) = P v

pub given_by : {V : Type 0} (P Q : V → Type 0) (o : Option V) → ((v : V) → P v → Q v) → Given P o → Given Q o
given_by P Q None h g = tt
given_by P Q (Some v) h g = h v g

given_is : {V : Type 0} (P : V → Type 0) (o : Option V) → Given P o → (v : V) → o ≡ Some v → P v
given_is P None g v e = cc
given_is P (Some w) g v e = subst P (let j : w ≡ v = cc in j) g

module _ {V : Type 0} (cmp : ℕ → V → V → Ordering) (k : ℕ) where
  -- the least of a kind is at or before each of a smaller kind
  pub least_of_fewer : (Q R : V → Type 0) (after o : Option V) → ((v : V) → R v → Q v) → IsLeastOrNone cmp Q k after o → IsLeastOrNone cmp R k after o
  least_of_fewer Q R after None h l = λ v r b. l v (h v r) b
  least_of_fewer Q R after (Some w) h l = (l.0, λ v r b. l.1 v (h v r) b)

  behind_lt : (x y : V) → is_lt (cmp k x y) ≡ true → cmp k x y ≡ Less
  behind_lt x y e = by (cmp k x y) refl e
    where
      by : (o : Ordering) → cmp k x y ≡ o → is_lt o ≡ true → o ≡ Less
      by Less h e = refl
      by Equal h e = cc
      by Greater h e = cc

  is_only_behind : (after : Option V) (t : V) → IsLeastOrNone cmp (λ v. v ≡ t) k after (only_behind cmp k after t)
  is_only_behind None t = (tt, λ v e b. inr (sym e))
  is_only_behind (Some x) t = by (is_lt (cmp k x t)) refl
    where
      by : (b : Bool) → is_lt (cmp k x t) ≡ b → IsLeastOrNone cmp (λ v. v ≡ t) k (Some x) (if b then Some t else None)
      by true e = (behind_lt x t e, λ v j b. inr (sym j))
      by false e = λ v j b. let l : is_lt (cmp k x t) ≡ true = ap (λ w. is_lt (cmp k x w)) (sym j) ∙ ap is_lt b in cc

  only_given : (P : V → Type 0) (after : Option V) (t : V) → P t → Given P (only_behind cmp k after t)
  only_given P None t p = p
  only_given P (Some x) t p = by (is_lt (cmp k x t))
    where
      by : (b : Bool) → Given P (if b then Some t else None)
      by true = p
      by false = tt

  first_given : (P : V → Type 0) (o p : Option V) → Given P o → Given P p → Given P (first_of cmp k o p)
  first_given P None p g h = h
  first_given P (Some v) None g h = g
  first_given P (Some v) (Some w) g h = by (cmp k v w)
    where
      by : (o : Ordering) → Given P (by_answer cmp o (Some v) (Some w))
      by Less = g
      by Equal = g
      by Greater = h

  module _ (total : IsTotalOrder (cmp k)) (Good : V → Type 0) (tied : (v w : V) → Good v → Good w → cmp k v w ≡ Equal → v ≡ w) where
    nearest_goes : (P : V → Type 0) (after best : Option V) (vs : List V) → ((v : V) → P v → Good v) → ((v : V) → IsIn v vs → Good v) → IsLeastOrNone cmp P k after best → Given P best
        → IsLeastOrNone cmp (λ v. P v ⊎ IsIn v vs) k after (nearest_of cmp k after best vs) × Given (λ v. P v ⊎ IsIn v vs) (nearest_of cmp k after best vs)
    nearest_goes P after best [] gp gs l g = (
      least_of_fewer P (λ v. P v ⊎ IsIn v []) after best (λ v s. elim s [ inl p ↦ p | inr n ↦ absurd n ]) l,
      given_by P (λ v. P v ⊎ IsIn v []) best (λ v p. inl p) g,
    )
    nearest_goes P after best (t ∷ vs) gp gs l g =
        let Q : V → Type 0 = λ v. P v ⊎ (v ≡ t) in
        let new : Option V = first_of cmp k best (only_behind cmp k after t) in
        let good : (v : V) → Q v → Good v = λ v q. elim q [ inl p ↦ gp v p | inr e ↦ gs v (inl e) ] in
        let given : Given Q new =
        first_given Q best (only_behind cmp k after t) (given_by P Q best (λ v p. inl p) g) (only_given Q after t (inr refl)) in
        let least : IsLeastOrNone cmp Q k after new =
        first_of_two cmp k total Good tied P (λ v. v ≡ t) after best (only_behind cmp k after t) l (is_only_behind after t)
        (λ v e. gp v (given_is P best g v e)) (λ v e. given_is Good (only_behind cmp k after t) (only_given Good after t (gs t (inl refl))) v e) in
        let rest = nearest_goes Q after new vs good (λ v h. gs v (inr h)) least given in (
          least_of_fewer (λ v. Q v ⊎ IsIn v vs) (λ v. P v ⊎ IsIn v (t ∷ vs)) after (nearest_of cmp k after new vs) (λ v s. to v s) rest.0,
          given_by (λ v. Q v ⊎ IsIn v vs) (λ v. P v ⊎ IsIn v (t ∷ vs)) (nearest_of cmp k after new vs) (λ v s. from v s) rest.1,
        )
      where
        to : (v : V) → P v ⊎ IsIn v (t ∷ vs) → (P v ⊎ (v ≡ t)) ⊎ IsIn v vs
        to v (inl p) = inl (inl p)
        to v (inr (inl e)) = inl (inr e)
        to v (inr (inr h)) = inr h

        from : (v : V) → (P v ⊎ (v ≡ t)) ⊎ IsIn v vs → P v ⊎ IsIn v (t ∷ vs)
        from v (inl (inl p)) = inl p
        from v (inl (inr e)) = inr (inl e)
        from v (inr h) = inr (inr h)

    -- the least of values that hold the next one of a kind is that one
    pub nearest_is_next : (Q : V → Type 0) (after : Option V) (vs : List V) → ((v : V) → Q v → Good v) → HoldsNext cmp Q k after vs
        → IsLeastOrNone cmp Q k after (nearest_of cmp k after None vs) × Given Q (nearest_of cmp k after None vs)
    nearest_is_next Q after vs good h =
        let r = nearest_goes (λ v. ⊥) after None vs (λ v n. absurd n) (λ v i. good v (h.each v i)) (λ v n b. n) tt in (
          by (nearest_of cmp k after None vs) r.0,
          given_by (λ v. ⊥ ⊎ IsIn v vs) Q (nearest_of cmp k after None vs) (λ v s. elim s [ inl n ↦ absurd n | inr i ↦ h.each v i ]) r.1,
        )
      where
        by : (o : Option V) → IsLeastOrNone cmp (λ v. ⊥ ⊎ IsIn v vs) k after o → IsLeastOrNone cmp Q k after o
        by None l = λ v q b. let w = h.least v q b in l w.0 (inr w.1) w.2
        by (Some u) l = (l.0, λ v q b. let w = h.least v q b in through v w.0 (l.1 w.0 (inr w.1) w.2) w.3)
          where
            through : (v w : V) → (cmp k u w ≡ Less) ⊎ (u ≡ w) → (cmp k w v ≡ Less) ⊎ (w ≡ v) → (cmp k u v ≡ Less) ⊎ (u ≡ v)
            through v w (inl a) b = onward cmp k total Good tied u w v a b
            through v w (inr e) b = subst (λ x. (cmp k x v ≡ Less) ⊎ (x ≡ v)) (sym e) b

  -- ---- lists that hold the next value

  pub holds_all : (after : Option V) (vs : List V) → HoldsNext cmp (λ v. IsIn v vs) k after vs
  holds_all after vs = record { each = λ w i. i; least = λ v i b. (v, i, b, inr refl) }

  pub holds_as : (P Q : V → Type 0) (after : Option V) (vs : List V) → ((v : V) → P v → Q v) → ((v : V) → Q v → P v) → HoldsNext cmp P k after vs → HoldsNext cmp Q k after vs
  holds_as P Q after vs to from h = record { each = λ w i. to w (h.each w i); least = λ v q b. h.least v (from v q) b }

  in_two : (v : V) (xs ys : List V) → IsIn v (xs ++ ys) → IsIn v xs ⊎ IsIn v ys
  in_two v [] ys i = inr i
  in_two v (x ∷ xs) ys (inl e) = inl (inl e)
  in_two v (x ∷ xs) ys (inr i) = elim (in_two v xs ys i) [ inl j ↦ inl (inr j) | inr j ↦ inr j ]

  pub holds_both : (P Q : V → Type 0) (after : Option V) (vs ws : List V) → HoldsNext cmp P k after vs → HoldsNext cmp Q k after ws → HoldsNext cmp (λ v. P v ⊎ Q v) k after (vs ++ ws)
  holds_both P Q after vs ws g h = record {
    each = λ w i. elim (in_two w vs ws i) [ inl j ↦ inl (g.each w j) | inr j ↦ inr (h.each w j) ];
    least = λ v q b. elim q [
      | inl p ↦ let w = g.least v p b in (w.0, in_left w.0 vs ws w.1, w.2, w.3)
      | inr p ↦ let w = h.least v p b in (w.0, in_right w.0 vs ws w.1, w.2, w.3)
    ];
  }
