-- Elements of lists.
use Rattle.std.proofs.Common.{◌≡◌, ◌<◌, ◌⊎◌, ℕ, ◌+◌, zero, suc, List, [], ◌∷◌, ◌++◌, Bool, true, false, cond, map, length, get_or, refl, sym, ap, subst, inl, inr, arith}
use Rattle.std.specs.Prelude.{All, Contains, filter, slice_get, Some}
use Rattle.std.specs.List.{flat_map, range_with_len}
use Rattle.std.proofs.lemmas.List.Elements.{All-head, All-tail}
use Rattle.mau_terms.specs.Finite.{IsIn}
use Rattle.mau_terms.proofs.Finite.{in_left, in_right}

module _ {A : Type 0} where
  pub in_both : (x : A) (xs ys : List A) → IsIn x (xs ++ ys) → IsIn x xs ⊎ IsIn x ys
  in_both x [] ys h = inr h
  in_both x (z ∷ xs) ys (inl e) = inl (inl e)
  in_both x (z ∷ xs) ys (inr h) = elim (in_both x xs ys h) [ inl a ↦ inl (inr a) | inr b ↦ inr b ]

  pub all_in : (P : A → Type 0) (xs : List A) (x : A) → All P xs → IsIn x xs → P x
  all_in P [] x a h = absurd h
  all_in P (y ∷ xs) x a (inl e) = subst P (sym e) (All-head P y xs a)
  all_in P (y ∷ xs) x a (inr h) = all_in P xs x (All-tail P y xs a) h

  pub in_filter : (p : A → Bool) (xs : List A) (x : A) → p x ≡ true → IsIn x xs → IsIn x (filter p xs)
  in_filter p [] x e h = absurd h
  in_filter p (y ∷ xs) x e (inl s) = subst (λ b. IsIn x (cond b (y ∷ filter p xs) (filter p xs))) (sym (subst (λ z. p z ≡ true) s e)) (inl s)
  in_filter p (y ∷ xs) x e (inr h) = by (p y) (in_filter p xs x e h)
    where
      by : (b : Bool) → IsIn x (filter p xs) → IsIn x (cond b (y ∷ filter p xs) (filter p xs))
      by true i = inr i
      by false i = i

  pub in_filtered : (p : A → Bool) (xs : List A) (x : A) → IsIn x (filter p xs) → IsIn x xs × (p x ≡ true)
  in_filtered p [] x h = absurd h
  in_filtered p (y ∷ xs) x h = by (p y) refl h (in_filtered p xs x)
    where
      by : (b : Bool) → p y ≡ b → IsIn x (cond b (y ∷ filter p xs) (filter p xs)) → (IsIn x (filter p xs) → IsIn x xs × (p x ≡ true)) → IsIn x (y ∷ xs) × (p x ≡ true)
      by true e (inl s) ih = (inl s, subst (λ z. p z ≡ true) (sym s) e)
      by true e (inr i) ih = let r = ih i in (inr r.0, r.1)
      by false e i ih = let r = ih i in (inr r.0, r.1)

  pub in_at : (xs : List A) (x : A) → IsIn x xs → (i : ℕ) × (slice_get xs i ≡ Some x)
  in_at [] x h = absurd h
  in_at (y ∷ xs) x (inl e) = (0, ap Some (sym e))
  in_at (y ∷ xs) x (inr h) = let r = in_at xs x h in (suc r.0, r.1)

  pub at_in : (xs : List A) (i : ℕ) (x : A) → slice_get xs i ≡ Some x → IsIn x xs
  at_in [] i x e = absurd cc
  at_in (y ∷ xs) zero x e = inl (let same : y ≡ x = cc in sym same)
  at_in (y ∷ xs) (suc i) x e = inr (at_in xs i x e)

  pub get_in : (xs : List A) (i : ℕ) (d : A) → i < length xs → IsIn (get_or xs i d) xs
  get_in [] i d l = absurd (omega arith)
  get_in (y ∷ xs) zero d l = inl refl
  get_in (y ∷ xs) (suc i) d l = inr (get_in xs i d (omega arith))

  pub in_contains : (xs : List A) (x : A) → IsIn x xs → Contains xs x
  in_contains [] x h = absurd h
  in_contains (y ∷ xs) x (inl e) = (0, omega arith, sym e)
  in_contains (y ∷ xs) x (inr h) = let r = in_contains xs x h in (suc r.0, omega (arith, r.1), r.2)

  pub contains_in : (xs : List A) (x : A) → Contains xs x → IsIn x xs
  contains_in xs x c = subst (λ y. IsIn y xs) c.2 (get_in xs c.0 x c.1)

module _ {A B : Type 0} (f : A → B) where
  pub in_mapped : (xs : List A) (y : B) → IsIn y (map f xs) → (x : A) × IsIn x xs × (y ≡ f x)
  in_mapped [] y h = absurd h
  in_mapped (x ∷ xs) y (inl e) = (x, inl refl, e)
  in_mapped (x ∷ xs) y (inr h) = let r = in_mapped xs y h in (r.0, inr r.1, r.2)

module _ {A B : Type 0} (f : A → List B) where
  pub in_flat : (xs : List A) (x : A) (y : B) → IsIn x xs → IsIn y (f x) → IsIn y (flat_map f xs)
  in_flat [] x y h i = absurd h
  in_flat (z ∷ xs) x y (inl e) i = in_left y (f z) (flat_map f xs) (subst (λ w. IsIn y (f w)) e i)
  in_flat (z ∷ xs) x y (inr h) i = in_right y (f z) (flat_map f xs) (in_flat xs x y h i)

  pub in_flattened : (xs : List A) (y : B) → IsIn y (flat_map f xs) → (x : A) × IsIn x xs × IsIn y (f x)
  in_flattened [] y h = absurd h
  in_flattened (z ∷ xs) y h = elim (in_both y (f z) (flat_map f xs) h) [
    | inl a ↦ (z, inl refl, a)
    | inr b ↦ let r = in_flattened xs y b in (r.0, inr r.1, r.2)
  ]

eq_or : (a b : ℕ) → a < b + 1 → (b ≡ a) ⊎ (a + 1 < b + 1)
eq_or zero zero w = inl refl
eq_or zero (suc b) w = inr (omega arith)
eq_or (suc a) zero w = absurd (omega arith)
eq_or (suc a) (suc b) w = elim (eq_or a b (omega arith)) [ inl e ↦ inl (ap suc e) | inr e ↦ inr (omega arith) ]

-- consecutive numbers
pub in_range : (from n k : ℕ) → from < k + 1 → k < from + n → IsIn k (range_with_len from n)
in_range from zero k l m = absurd (omega arith)
in_range from (suc n) k l m = by (eq_or from k (omega arith)) (λ w. in_range (from + 1) n k w (omega arith))
  where
    by : (k ≡ from) ⊎ (from + 1 < k + 1) → (from + 1 < k + 1 → IsIn k (range_with_len (from + 1) n)) → IsIn k (range_with_len from (suc n))
    by (inl e) ih = inl e
    by (inr w) ih = inr (ih w)

pub range_in : (from n k : ℕ) → IsIn k (range_with_len from n) → (from < k + 1) × (k < from + n)
range_in from zero k h = absurd h
range_in from (suc n) k (inl e) = (omega (arith, e), omega (arith, e))
range_in from (suc n) k (inr h) = let r = range_in (from + 1) n k h in (omega (arith, r.0), omega (arith, r.1))
