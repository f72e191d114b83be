-- How many elements of a list come behind one.
use Rattle.std.proofs.Common.{◌≡◌, ℕ, ◌+◌, ◌<◌, ◌≤◌, List, [], ◌∷◌, Bool, true, false, cond, count_by, Option, Some, None, inl, inr, refl, sym, ◌∙◌, ap, arith}
use Rattle.std.specs.declared.cmp.Ordering.{Ordering}
use Rattle.std.specs.declared.cmp.Ordering.TheVariants.{Less, Equal, Greater}
use Rattle.std.specs.Ordering.{is_lt}
use Rattle.std.specs.Cmp.{IsTotalOrder}
use Rattle.std.proofs.lemmas.List.Sums.{sum_by-cons}
use Rattle.std.proofs.lemmas.Cmp.{tied_itself}
use Rattle.mau_terms.specs.Finite.{IsIn}
use Rattle.mau_listing.specs.Finite.{comes_behind}

module _ {A : Type 0} (P Q : A → Bool) (more : (x : A) → P x ≡ true → Q x ≡ true) where
  one_at_most : (x : A) → cond (P x) 1 0 ≤ cond (Q x) 1 0
  one_at_most x = by (P x) (Q x) (more x)
    where
      by : (b c : Bool) → (b ≡ true → c ≡ true) → cond b 1 0 ≤ cond c 1 0
      by false c m = omega arith
      by true true m = omega arith
      by true false m = let k : false ≡ true = m refl in cc

  abbrev number : ℕ → ℕ
  number n = n

  count_first : (R : A → Bool) (x : A) (xs : List A) → count_by R (x ∷ xs) ≡ cond (R x) 1 0 + count_by R xs
  count_first R x xs = sum_by-cons (λ t. cond (R t) 1 0) x xs

  count_grows : (xs : List A) → count_by P xs ≤ count_by Q xs
  count_grows [] = omega arith
  count_grows (x ∷ xs) = omega (arith, one_at_most x, count_grows xs, count_first P x xs, count_first Q x xs)

module _ {A : Type 0} (P Q : A → Bool) (more : (x : A) → P x ≡ true → Q x ≡ true) where
  count_less : (x : A) → P x ≡ false → Q x ≡ true → (xs : List A) → IsIn x xs → count_by P xs < count_by Q xs
  count_less x p q [] h = absurd h
  count_less x p q (t ∷ xs) (inl h) =
      let here : number P Q more (cond (P t) 1 0) ≡ number P Q more 0 = ap (λ b. cond b 1 0) (ap P (sym h) ∙ p) in
      let there : number P Q more (cond (Q t) 1 0) ≡ number P Q more 1 = ap (λ b. cond b 1 0) (ap Q (sym h) ∙ q) in
      omega (arith, here, there, count_grows P Q more xs, count_first P Q more P t xs, count_first P Q more Q t xs)
  count_less x p q (t ∷ xs) (inr h) = omega (arith, one_at_most P Q more t, count_less x p q xs h, count_first P Q more P t xs, count_first P Q more Q t xs)

less_is : (o : Ordering) → is_lt o ≡ true → o ≡ Less
less_is Less e = refl
less_is Equal e = cc
less_is Greater e = cc

-- behind one of them that comes behind the last one there are fewer
module _ {A : Type 0} (cmp : A → A → Ordering) (total : IsTotalOrder cmp) (xs : List A) (last : Option A) (x : A) where
  pub fewer_behind : IsIn x xs → comes_behind cmp last x ≡ true → count_by (comes_behind cmp (Some x)) xs < count_by (comes_behind cmp last) xs
  fewer_behind there behind = count_less (comes_behind cmp (Some x)) (comes_behind cmp last) (more last behind) x (ap is_lt (tied_itself total x)) behind xs there
    where
      more : (o : Option A) → comes_behind cmp o x ≡ true → (y : A) → is_lt (cmp x y) ≡ true → comes_behind cmp o y ≡ true
      more None b y e = refl
      more (Some w) b y e = ap is_lt (total.trans w x y (less_is (cmp w x) b) (less_is (cmp x y) e))
