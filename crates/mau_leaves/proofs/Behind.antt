-- The solutions that come behind one, in an ascending list of them.
use Rattle.std.proofs.Common.{◌≡◌, List, [], ◌∷◌, ◌++◌, Bool, true, false, if◌then◌else◌, Option, Some, None, inl, inr, refl, sym, ap, ◌∙◌, subst}
use Rattle.std.specs.Cmp.{IsTotalOrder}
use Rattle.std.specs.Ordering.{is_lt, ordering_reverse}
use Rattle.std.specs.declared.cmp.Ordering.{Ordering}
use Rattle.std.specs.declared.cmp.Ordering.TheVariants.{Less, Equal, Greater}
use Rattle.mau_terms.specs.Finite.{IsIn}
use Rattle.mau_listing.specs.Finite.{comes_behind}
use Rattle.mau_evaluation.specs.Listing.{Solution, keep, AllAfter, IsAscending}
use Rattle.mau_evaluation.proofs.Listed.{from_keep}

module _ (c : Solution → Solution → Ordering) (total : IsTotalOrder c) where
  not_less : (x y : Solution) → c x y ≡ Less → is_lt (c y x) ≡ false
  not_less x y e = by (c x y) (c y x) (total.antisymm x y) e
    where
      by : (o p : Ordering) → o ≡ ordering_reverse p → o ≡ Less → is_lt p ≡ false
      by o Less h e = cc
      by o Equal h e = refl
      by o Greater h e = refl

  not_itself : (x : Solution) → is_lt (c x x) ≡ false
  not_itself x = by (c x x) refl
    where
      by : (o : Ordering) → c x x ≡ o → is_lt o ≡ false
      by Less e = sym (ap is_lt e) ∙ not_less x x e
      by Equal e = refl
      by Greater e = refl

  after_in : (z : Solution) (ys : List Solution) → AllAfter c z ys → (x : Solution) → IsIn x ys → c z x ≡ Less
  after_in z [] a x i = absurd i
  after_in z (y ∷ ys) a x (inl e) = subst (λ w. c z w ≡ Less) (sym e) a.0
  after_in z (y ∷ ys) a x (inr i) = after_in z ys a.1 x i

  there : (xs ys : List Solution) (x : Solution) → IsIn x (xs ++ x ∷ ys)
  there [] ys x = inl refl
  there (z ∷ xs) ys x = inr (there xs ys x)

  all_behind : (x : Solution) (ys : List Solution) → AllAfter c x ys → keep (λ y. is_lt (c x y)) ys ≡ ys
  all_behind x [] a = refl
  all_behind x (y ∷ ys) a = ap (λ b. if b then y ∷ keep (λ y. is_lt (c x y)) ys else keep (λ y. is_lt (c x y)) ys) (ap is_lt a.0) ∙ ap (λ zs. y ∷ zs) (all_behind x ys a.1)

  pub behind_it : (xs ys : List Solution) (x : Solution) → IsAscending c (xs ++ x ∷ ys) → keep (λ y. is_lt (c x y)) (xs ++ x ∷ ys) ≡ ys
  behind_it [] ys x a =
      ap (λ b. if b then x ∷ keep (λ y. is_lt (c x y)) ys else keep (λ y. is_lt (c x y)) ys) (not_itself x) ∙ all_behind x ys a.0
  behind_it (z ∷ xs) ys x a =
      ap (λ b. if b then z ∷ keep (λ y. is_lt (c x y)) (xs ++ x ∷ ys) else keep (λ y. is_lt (c x y)) (xs ++ x ∷ ys)) (not_less z x (after_in z (xs ++ x ∷ ys) a.0 x (there xs ys x))) ∙ behind_it xs ys x a.1

-- ---- what is kept twice

kept_both : {A : Type 0} (f g : A → Bool) (y : A) (ys : List A) → (f y ≡ true → g y ≡ true) → keep f (keep g ys) ≡ keep f ys → keep f (if g y then y ∷ keep g ys else keep g ys) ≡ (if f y then y ∷ keep f ys else keep f ys)
kept_both f g y ys h e = by (g y) refl (f y) refl
  where
    clash : {X : Type 0} → true ≡ false → X
    clash z = cc

    by : (a : Bool) → g y ≡ a → (b : Bool) → f y ≡ b → keep f (if a then y ∷ keep g ys else keep g ys) ≡ (if b then y ∷ keep f ys else keep f ys)
    by true i true k = ap (λ b. if b then y ∷ keep f (keep g ys) else keep f (keep g ys)) k ∙ ap (λ zs. y ∷ zs) e
    by true i false k = ap (λ b. if b then y ∷ keep f (keep g ys) else keep f (keep g ys)) k ∙ e
    by false i true k = clash (sym (h k) ∙ i)
    by false i false k = e

keep_keep : {A : Type 0} (f g : A → Bool) → ((y : A) → f y ≡ true → g y ≡ true) → (ys : List A) → keep f (keep g ys) ≡ keep f ys
keep_keep f g h [] = refl
keep_keep f g h (y ∷ ys) = kept_both f g y ys (h y) (keep_keep f g h ys)

is_less : (o : Ordering) → is_lt o ≡ true → o ≡ Less
is_less Less e = refl
is_less Equal e = cc
is_less Greater e = cc

module _ (c : Solution → Solution → Ordering) (total : IsTotalOrder c) (xs : List Solution) (last : Option Solution) (ascends : IsAscending c (keep (comes_behind c last) xs)) where
  further : (x y : Solution) → comes_behind c last x ≡ true → comes_behind c (Some x) y ≡ true → comes_behind c last y ≡ true
  further x y h k = by last h
    where
      by : (last : Option Solution) → comes_behind c last x ≡ true → comes_behind c last y ≡ true
      by None h = refl
      by (Some l) h = ap is_lt (total.trans l x y (is_less (c l x) h) (is_less (c x y) k))

  -- behind one of those that come behind the last one stand those behind it
  pub behind_one : (failed ys : List Solution) (x : Solution) → keep (comes_behind c last) xs ≡ failed ++ (x ∷ ys) → keep (comes_behind c (Some x)) xs ≡ ys
  behind_one failed ys x parts =
      let here : IsIn x (keep (comes_behind c last) xs) = subst (IsIn x) (sym parts) (there c total failed ys x) in
      let behind_last = (from_keep (comes_behind c last) x xs here).1 in
      sym (keep_keep (comes_behind c (Some x)) (comes_behind c last) (λ y k. further x y behind_last k) xs)
      ∙ (ap (keep (comes_behind c (Some x))) parts ∙ behind_it c total failed ys x (subst (IsAscending c) parts ascends))

-- all come behind none
pub all_of_them : {A : Type 0} (c : A → A → Ordering) (xs : List A) → keep (comes_behind c None) xs ≡ xs
all_of_them c [] = refl
all_of_them c (x ∷ xs) = ap (λ zs. x ∷ zs) (all_of_them c xs)
