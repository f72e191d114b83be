-- The plain programs write down all lists of a kind.
use Rattle.std.proofs.Common.{◌≡◌, ◌⊎◌, List, [], ◌∷◌, ◌++◌, inl, inr, refl, sym, ap, subst}
use Rattle.mau_lists.specs.Lists.{IsSubList, IsFront, IsPart, IsAmong}
use Rattle.mau_lists.specs.Listed.{each_with, sub_lists, fronts, parts}
use Rattle.mau_lists.specs.Laws.{AreListed}
use Rattle.mau_lists.proofs.Members.{sub_more}

module _ {A : Type 0} where
  among_left : (x : List A) (ss ts : List (List A)) → IsAmong x ss → IsAmong x (ss ++ ts)
  among_left x [] ts h = absurd h
  among_left x (s ∷ ss) ts (inl h) = inl h
  among_left x (s ∷ ss) ts (inr h) = inr (among_left x ss ts h)

  among_right : (x : List A) (ss ts : List (List A)) → IsAmong x ts → IsAmong x (ss ++ ts)
  among_right x [] ts h = h
  among_right x (s ∷ ss) ts h = inr (among_right x ss ts h)

  among_append : (x : List A) (ss ts : List (List A)) → IsAmong x (ss ++ ts) → IsAmong x ss ⊎ IsAmong x ts
  among_append x [] ts h = inr h
  among_append x (s ∷ ss) ts (inl h) = inl (inl h)
  among_append x (s ∷ ss) ts (inr h) = elim (among_append x ss ts h) [ inl k ↦ inl (inr k) | inr k ↦ inr k ]

  among_with : (y : A) (x : List A) (ss : List (List A)) → IsAmong x ss → IsAmong (y ∷ x) (each_with y ss)
  among_with y x [] h = h
  among_with y x (s ∷ ss) (inl h) = inl (ap (λ l. y ∷ l) h)
  among_with y x (s ∷ ss) (inr h) = inr (among_with y x ss h)

  -- what stands among those with y in front
  with_among : (y : A) (x : List A) (ss : List (List A)) → IsAmong x (each_with y ss) → (s : List A) × IsAmong s ss × (x ≡ y ∷ s)
  with_among y x [] h = absurd h
  with_among y x (s ∷ ss) (inl h) = (s, inl refl, h)
  with_among y x (s ∷ ss) (inr h) = let r = with_among y x ss h in (r.0, inr r.1, r.2)

  -- ---- sub-lists

  empty_listed : (ys : List A) → IsAmong [] (sub_lists ys)
  empty_listed [] = inl refl
  empty_listed (y ∷ ys) = among_left [] (sub_lists ys) (each_with y (sub_lists ys)) (empty_listed ys)

  pub sub_listed : (xs ys : List A) → IsSubList xs ys → IsAmong xs (sub_lists ys)
  sub_listed [] ys h = empty_listed ys
  sub_listed (x ∷ xs) [] h = absurd h
  sub_listed (x ∷ xs) (y ∷ ys) (inl h) = among_right (x ∷ xs) (sub_lists ys) (each_with y (sub_lists ys)) (subst (λ w. IsAmong (w ∷ xs) (each_with y (sub_lists ys))) (sym h.0) (among_with y xs (sub_lists ys) (sub_listed xs ys h.1)))
  sub_listed (x ∷ xs) (y ∷ ys) (inr h) = among_left (x ∷ xs) (sub_lists ys) (each_with y (sub_lists ys)) (sub_listed (x ∷ xs) ys h)

  listed_sub : (xs ys : List A) → IsAmong xs (sub_lists ys) → IsSubList xs ys
  listed_sub xs [] (inl h) = subst (λ l. IsSubList l []) (sym h) tt
  listed_sub xs [] (inr h) = absurd h
  listed_sub xs (y ∷ ys) h = by (λ k. listed_sub xs ys k) (λ s k. listed_sub s ys k) (among_append xs (sub_lists ys) (each_with y (sub_lists ys)) h)
    where
      by : (IsAmong xs (sub_lists ys) → IsSubList xs ys) → ((s : List A) → IsAmong s (sub_lists ys) → IsSubList s ys) → IsAmong xs (sub_lists ys) ⊎ IsAmong xs (each_with y (sub_lists ys)) → IsSubList xs (y ∷ ys)
      by f g (inl k) = sub_more xs y ys (f k)
      by f g (inr k) = let r = with_among y xs (sub_lists ys) k in subst (λ l. IsSubList l (y ∷ ys)) (sym r.2) (inl (refl, g r.0 r.1))

  -- ---- fronts

  front_listed : (xs ys : List A) → IsFront xs ys → IsAmong xs (fronts ys)
  front_listed [] [] h = inl refl
  front_listed [] (y ∷ ys) h = inl refl
  front_listed (x ∷ xs) [] h = absurd h
  front_listed (x ∷ xs) (y ∷ ys) h = inr (subst (λ w. IsAmong (w ∷ xs) (each_with y (fronts ys))) (sym h.0) (among_with y xs (fronts ys) (front_listed xs ys h.1)))

  listed_front : (xs ys : List A) → IsAmong xs (fronts ys) → IsFront xs ys
  listed_front xs [] (inl h) = subst (λ l. IsFront l []) (sym h) tt
  listed_front xs [] (inr h) = absurd h
  listed_front xs (y ∷ ys) (inl h) = subst (λ l. IsFront l (y ∷ ys)) (sym h) tt
  listed_front xs (y ∷ ys) (inr h) = let r = with_among y xs (fronts ys) h in subst (λ l. IsFront l (y ∷ ys)) (sym r.2) (refl, listed_front r.0 ys r.1)

  -- ---- parts

  pub part_listed : (xs ys : List A) → IsPart xs ys → IsAmong xs (parts ys)
  part_listed xs [] h = front_listed xs [] h
  part_listed xs (y ∷ ys) (inl h) = among_left xs (fronts (y ∷ ys)) (parts ys) (front_listed xs (y ∷ ys) h)
  part_listed xs (y ∷ ys) (inr h) = among_right xs (fronts (y ∷ ys)) (parts ys) (part_listed xs ys h)

  listed_part : (xs ys : List A) → IsAmong xs (parts ys) → IsPart xs ys
  listed_part xs [] h = listed_front xs [] h
  listed_part xs (y ∷ ys) h = by (λ k. listed_part xs ys k) (among_append xs (fronts (y ∷ ys)) (parts ys) h)
    where
      by : (IsAmong xs (parts ys) → IsPart xs ys) → IsAmong xs (fronts (y ∷ ys)) ⊎ IsAmong xs (parts ys) → IsPart xs (y ∷ ys)
      by f (inl k) = inl (listed_front xs (y ∷ ys) k)
      by f (inr k) = inr (f k)

pub are_listed : AreListed
are_listed = record {
  sub_lists = λ xs ys. (sub_listed xs ys, listed_sub xs ys);
  fronts = λ xs ys. (front_listed xs ys, listed_front xs ys);
  parts = λ xs ys. (part_listed xs ys, listed_part xs ys);
}
