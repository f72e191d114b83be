-- What is left of a listing, one solution after another.
use Rattle.std.proofs.Common.{◌≡◌, List, [], ◌∷◌, Option, None, Some, inl, inr, ◌⊎◌, refl, sym, ap, subst}
use Rattle.std.specs.Cmp.{IsTotalOrder}
use Rattle.std.specs.Ordering.{ordering_reverse}
use Rattle.std.specs.declared.cmp.Ordering.{Ordering}
use Rattle.std.specs.declared.cmp.Ordering.TheVariants.{Less}
use Rattle.mau_terms.specs.Finite.{IsIn}
use Rattle.mau_signature.specs.Signature.{theory_at}
use Rattle.mau_listing.specs.Matcher.{Matcher}
use Rattle.mau_listing.specs.Next.{IsBehind, IsNext, matcher_cmp}
use Rattle.mau_listing.proofs.Ordered.{matchers_are_ordered}
use Rattle.mau_api.specs.Remaining.{AllBehind, AreLeft, first_left, NextIsFirst, RestIsLeft}

module _ (Is : Matcher → Type 0) (cmp : Matcher → Matcher → Ordering) (total : IsTotalOrder cmp) where
  among_behind : (x : Matcher) (ys : List Matcher) → AllBehind cmp x ys → (y : Matcher) → IsIn y ys → cmp x y ≡ Less
  among_behind x [] a y i = absurd i
  among_behind x (z ∷ ys) a y (inl e) = subst (λ w. cmp x w ≡ Less) (sym e) a.0
  among_behind x (z ∷ ys) a y (inr i) = among_behind x ys a.1 y i

  not_both : (x y : Matcher) → cmp x y ≡ Less → cmp y x ≡ Less → ⊥
  not_both x y e g = by (cmp x y) (cmp y x) (total.antisymm x y) e g
    where
      by : (o p : Ordering) → o ≡ ordering_reverse p → o ≡ Less → p ≡ Less → ⊥
      by o p h e g = cc

  pub next_is_first : (last : Option Matcher) (xs : List Matcher) → AreLeft Is cmp last xs → (o : Option Matcher) → IsNext Is cmp last o → o ≡ first_left xs
  next_is_first last [] left None is = refl
  next_is_first last [] left (Some x) is = absurd ((left.each x).1 (is.is_one, is.behind))
  next_is_first last (y ∷ ys) left None is = let p = (left.each y).0 (inl refl) in absurd (is y p.0 p.1)
  next_is_first last (y ∷ ys) left (Some x) is = by ((left.each x).1 (is.is_one, is.behind))
    where
      p : Is y × IsBehind cmp last y
      p = (left.each y).0 (inl refl)

      further : cmp y x ≡ Less → (cmp x y ≡ Less) ⊎ (x ≡ y) → Some x ≡ Some y
      further g (inl e) = absurd (not_both x y e g)
      further g (inr e) = ap Some e

      by : IsIn x (y ∷ ys) → Some x ≡ Some y
      by (inl e) = ap Some e
      by (inr i) = further (among_behind y ys left.ascend.0 x i) (is.least y p.0 p.1)

  behind_both : (last : Option Matcher) (y x : Matcher) → IsBehind cmp last y → cmp y x ≡ Less → IsBehind cmp last x
  behind_both None y x b e = tt
  behind_both (Some l) y x b e = total.trans l y x b e

  pub rest_is_left : (last : Option Matcher) (y : Matcher) (ys : List Matcher) → AreLeft Is cmp last (y ∷ ys) → AreLeft Is cmp (Some y) ys
  rest_is_left last y ys left = record {
    each = λ x. (
      (λ i. (((left.each x).0 (inr i)).0, among_behind y ys left.ascend.0 x i)),
      (λ h. by x h.1 ((left.each x).1 (h.0, behind_both last y x ((left.each y).0 (inl refl)).1 h.1))),
    );
    ascend = left.ascend.1;
  }
    where
      by : (x : Matcher) → cmp y x ≡ Less → IsIn x (y ∷ ys) → IsIn x ys
      by x e (inl h) = let k : cmp y y ≡ Less = subst (λ w. cmp y w ≡ Less) h e in absurd (not_both y y k k)
      by x e (inr i) = i

pub next_is : NextIsFirst
next_is c s known q = next_is_first _ (matcher_cmp (theory_at s) q.pattern) (matchers_are_ordered (theory_at s) q.pattern)

pub rest_is : RestIsLeft
rest_is c s known q = rest_is_left _ (matcher_cmp (theory_at s) q.pattern) (matchers_are_ordered (theory_at s) q.pattern)
