-- What is computed is of the elements of the list: a sub-list of it, and a part.
use Rattle.std.proofs.Common.{◌≡◌, ℕ, zero, suc, ◌+◌, ◌<◌, List, [], ◌∷◌, ◌++◌, All, length, slice_index_or, take, drop, map, Option, Some, None, IfSome, inl, inr, refl, sym, ap, subst, arith}
use Rattle.std.specs.declared.cmp.Ordering.{Ordering}
use Rattle.std.specs.declared.cmp.Ordering.TheVariants.{Less, Equal, Greater}
use Rattle.std.proofs.lemmas.List.{take_more, drop_more, take-append-drop}
use Rattle.std.proofs.lemmas.List.Elements.{All-cons, All-head, All-tail}
use Rattle.mau_lists.specs.Lists.{IsSubList, IsFront, IsPart}
use Rattle.mau_lists.specs.Following.{choose, first_above, alone, replaced, fallen}

module _ {A : Type 0} where
  -- ---- sub-lists of longer lists

  pub sub_more : (s : List A) (y : A) (ys : List A) → IsSubList s ys → IsSubList s (y ∷ ys)
  sub_more [] y ys h = tt
  sub_more (z ∷ s) y ys h = inr h

  sub_behind : (xs t ys : List A) → IsSubList t ys → IsSubList t (xs ++ ys)
  sub_behind [] t ys h = h
  sub_behind (x ∷ xs) t ys h = sub_more t x (xs ++ ys) (sub_behind xs t ys h)

  pub sub_append : (s xs t ys : List A) → IsSubList s xs → IsSubList t ys → IsSubList (s ++ t) (xs ++ ys)
  sub_append [] xs t ys h k = sub_behind xs t ys k
  sub_append (z ∷ s) [] t ys h k = absurd h
  sub_append (z ∷ s) (x ∷ xs) t ys (inl h) k = inl (h.0, sub_append s xs t ys h.1 k)
  sub_append (z ∷ s) (x ∷ xs) t ys (inr h) k = inr (sub_append (z ∷ s) xs t ys h k)

  sub_longer : (s xs ys : List A) → IsSubList s xs → IsSubList s (xs ++ ys)
  sub_longer [] xs ys h = tt
  sub_longer (z ∷ s) [] ys h = absurd h
  sub_longer (z ∷ s) (x ∷ xs) ys (inl h) = inl (h.0, sub_longer s xs ys h.1)
  sub_longer (z ∷ s) (x ∷ xs) ys (inr h) = inr (sub_longer (z ∷ s) xs ys h)

  -- ---- what the search met, where so many items were seen

  module _ (d : A) (s items : List A) (i : ℕ) (h : i < length items) (met : IsSubList s (take i items)) where
    pub sub_skip : IsSubList s (take (i + 1) items)
    sub_skip = subst (IsSubList s) (sym (take_more items i d h)) (sub_longer s (take i items) (slice_index_or items i d ∷ []) met)

    pub sub_met : (x : A) → x ≡ slice_index_or items i d → IsSubList (s ++ x ∷ []) (take (i + 1) items)
    sub_met x e = subst (IsSubList (s ++ x ∷ [])) (sym (take_more items i d h)) (sub_append s (take i items) (x ∷ []) (slice_index_or items i d ∷ []) met (inl (e, tt)))

    rest_sub : (t : List A) → IsSubList t (slice_index_or items i d ∷ drop (i + 1) items) → IsSubList (s ++ t) items
    rest_sub t k = subst (IsSubList (s ++ t)) (take-append-drop i items) (sub_append s (take i items) t (drop i items) met (subst (IsSubList t) (sym (drop_more items i d h)) k))

    -- the item behind what was met
    pub sub_item : IsSubList (s ++ slice_index_or items i d ∷ []) items
    sub_item = rest_sub (slice_index_or items i d ∷ []) (inl (refl, tt))

    -- a later item behind it
    pub sub_later : (z : A) → IsSubList (z ∷ []) (drop (i + 1) items) → IsSubList (s ++ z ∷ []) items
    sub_later z k = rest_sub (z ∷ []) (inr k)

  sub_all_more : (o : Option (List A)) (y : A) (ys : List A) → IfSome o (λ s. IsSubList s ys) → IfSome o (λ s. IsSubList s (y ∷ ys))
  sub_all_more None y ys h = tt
  sub_all_more (Some s) y ys h = sub_more s y ys h

  above_sub : (cmp : A → A → Ordering) (x : A) (ys : List A) → IfSome (alone (first_above cmp x ys)) (λ s. IsSubList s ys)
  above_sub cmp x [] = tt
  above_sub cmp x (y ∷ ys) = by (sub_all_more (alone (first_above cmp x ys)) y ys (above_sub cmp x ys)) (cmp x y)
    where
      by : IfSome (alone (first_above cmp x ys)) (λ s. IsSubList s (y ∷ ys)) → (o : Ordering) → IfSome (alone (choose o (Some y) (first_above cmp x ys) (first_above cmp x ys))) (λ s. IsSubList s (y ∷ ys))
      by h Less = inl (refl, tt)
      by h Equal = h
      by h Greater = h

  -- the best so far, where one more element was met
  pub sub_fallen : (cmp : A → A → Ordering) (d x : A) (last items : List A) (depth i : ℕ) (best : Option (ℕ × A)) (above : Option A) → i < length items → IsSubList (take depth last) (take i items) → above ≡ first_above cmp x (drop (i + 1) items)
      → IfSome (replaced last best) (λ s. IsSubList s items) → IfSome (replaced last (fallen depth best above)) (λ s. IsSubList s items)
  sub_fallen cmp d x last items depth i best None h met e k = k
  sub_fallen cmp d x last items depth i best (Some z) h met e k =
      sub_later d (take depth last) items i h met z (subst (λ o. IfSome (alone o) (λ s. IsSubList s (drop (i + 1) items))) (sym e) (above_sub cmp x (drop (i + 1) items)))

  -- what holds of each element of a list holds of those of its sub-lists
  pub sub_All : (P : A → Type 0) (s xs : List A) → IsSubList s xs → All P xs → All P s
  sub_All P [] xs h a = λ k d l. absurd (omega arith)
  sub_All P (z ∷ s) [] h a = absurd h
  sub_All P (z ∷ s) (x ∷ xs) (inl h) a = All-cons P z s (subst P (sym h.0) (All-head P x xs a)) (sub_All P s xs h.1 (All-tail P x xs a))
  sub_All P (z ∷ s) (x ∷ xs) (inr h) a = sub_All P (z ∷ s) xs h (All-tail P x xs a)

  -- ---- parts

  front_taken : (n : ℕ) (ys : List A) → IsFront (take n ys) ys
  front_taken zero ys = tt
  front_taken (suc n) [] = tt
  front_taken (suc n) (y ∷ ys) = (refl, front_taken n ys)

  pub part_front : (xs ys : List A) → IsFront xs ys → IsPart xs ys
  part_front xs [] h = h
  part_front xs (y ∷ ys) h = inl h

  pub part_cut : (k n : ℕ) (ys : List A) → IsPart (take n (drop k ys)) ys
  part_cut zero n ys = part_front (take n ys) ys (front_taken n ys)
  part_cut (suc k) n [] = part_front (take n []) [] (front_taken n [])
  part_cut (suc k) n (y ∷ ys) = inr (part_cut k n ys)

module _ {A : Type 0} where
  front_All : (P : A → Type 0) (s xs : List A) → IsFront s xs → All P xs → All P s
  front_All P [] xs h a = λ k d l. absurd (omega arith)
  front_All P (z ∷ s) [] h a = absurd h
  front_All P (z ∷ s) (x ∷ xs) h a = All-cons P z s (subst P (sym h.0) (All-head P x xs a)) (front_All P s xs h.1 (All-tail P x xs a))

  pub part_All : (P : A → Type 0) (s xs : List A) → IsPart s xs → All P xs → All P s
  part_All P s [] h a = front_All P s [] h a
  part_All P s (x ∷ xs) (inl h) a = front_All P s (x ∷ xs) h a
  part_All P s (x ∷ xs) (inr h) a = part_All P s xs h (All-tail P x xs a)

-- ---- the same of the keys

module _ {A B : Type 0} (key : A → B) where
  pub sub-keys : (xs ys : List A) → IsSubList xs ys → IsSubList (map key xs) (map key ys)
  sub-keys [] ys h = tt
  sub-keys (x ∷ xs) [] h = h
  sub-keys (x ∷ xs) (y ∷ ys) (inl h) = inl (ap key h.0, sub-keys xs ys h.1)
  sub-keys (x ∷ xs) (y ∷ ys) (inr h) = inr (sub-keys (x ∷ xs) ys h)

  front-keys : (xs ys : List A) → IsFront xs ys → IsFront (map key xs) (map key ys)
  front-keys [] ys h = tt
  front-keys (x ∷ xs) [] h = h
  front-keys (x ∷ xs) (y ∷ ys) h = (ap key h.0, front-keys xs ys h.1)

  pub part-keys : (xs ys : List A) → IsPart xs ys → IsPart (map key xs) (map key ys)
  part-keys xs [] h = front-keys xs [] h
  part-keys xs (y ∷ ys) (inl h) = inl (front-keys xs (y ∷ ys) h)
  part-keys xs (y ∷ ys) (inr h) = inr (part-keys xs ys h)
