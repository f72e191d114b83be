-- The least value of several kinds.
use Rattle.std.proofs.Common.{◌≡◌, ℕ, Option, Some, None, inl, inr, ◌⊎◌, refl, sym, ◌∙◌, ap, subst}
use Rattle.std.specs.declared.cmp.Ordering.{Ordering}
use Rattle.std.specs.declared.cmp.Ordering.TheVariants.{Less, Equal, Greater}
use Rattle.std.specs.Ordering.{ordering_reverse}
use Rattle.std.specs.Cmp.{IsTotalOrder}
use Rattle.mau_domains.specs.Search.{IsLeastOrNone, by_answer, first_of}

module _ {V : Type 0} (cmp : ℕ → V → V → Ordering) (k : ℕ) (total : IsTotalOrder (cmp k)) (Good : V → Type 0) (tied : (v w : V) → Good v → Good w → cmp k v w ≡ Equal → v ≡ w) where
  IfGood : Option V → Type 0
  IfGood None = Unit {0}
  IfGood (Some v) = Good v

  pub onward : (v w u : V) → cmp k v w ≡ Less → (cmp k w u ≡ Less) ⊎ (w ≡ u) → (cmp k v u ≡ Less) ⊎ (v ≡ u)
  onward v w u l (inl h) = inl (total.trans v w u l h)
  onward v w u l (inr e) = inl (subst (λ z. cmp k v z ≡ Less) e l)

  pub first_of_two : (Q R : V → Type 0) (after o p : Option V) → IsLeastOrNone cmp Q k after o → IsLeastOrNone cmp R k after p → ((v : V) → o ≡ Some v → Good v) → ((v : V) → p ≡ Some v → Good v) → IsLeastOrNone cmp (λ v. Q v ⊎ R v) k after (first_of cmp k o p)
  first_of_two Q R after None None h j go gp = λ v s b. elim s [ inl q ↦ h v q b | inr r ↦ j v r b ]
  first_of_two Q R after None (Some w) h j go gp = (j.0, λ v s b. elim s [ inl q ↦ absurd (h v q b) | inr r ↦ j.1 v r b ])
  first_of_two Q R after (Some v) None h j go gp = (h.0, λ u s b. elim s [ inl q ↦ h.1 u q b | inr r ↦ absurd (j u r b) ])
  first_of_two Q R after (Some v) (Some w) h j go gp = by (cmp k v w) refl
    where
      by : (o : Ordering) → cmp k v w ≡ o → IsLeastOrNone cmp (λ v. Q v ⊎ R v) k after (by_answer cmp o (Some v) (Some w))
      by Less e = (h.0, λ u s b. elim s [ inl q ↦ h.1 u q b | inr r ↦ onward v w u e (j.1 u r b) ])
      by Equal e = let vw : v ≡ w = tied v w (go v refl) (gp w refl) e in (h.0, λ u s b. elim s [ inl q ↦ h.1 u q b | inr r ↦ subst (λ z. (cmp k z u ≡ Less) ⊎ (z ≡ u)) (sym vw) (j.1 u r b) ])
      by Greater e =
          let l : cmp k w v ≡ Less = total.antisymm w v ∙ ap ordering_reverse e in
          (j.0, λ u s b. elim s [ inl q ↦ onward w v u l (h.1 u q b) | inr r ↦ j.1 u r b ])
