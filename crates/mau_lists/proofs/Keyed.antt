-- The next lists of elements that are compared by keys are, by their keys, the next lists of the keys.
use Rattle.std.proofs.Common.{◌≡◌, List, [], ◌∷◌, map, Option, Some, None, refl, ◌∙◌, ap, ap₂}
use Rattle.std.specs.Option.{option_map}
use Rattle.std.specs.declared.cmp.Ordering.{Ordering}
use Rattle.std.specs.declared.cmp.Ordering.TheVariants.{Less, Equal, Greater}
use Rattle.std.specs.Ordering.{ordering_then}
use Rattle.std.specs.Cmp.Lexicographic.{slice_cmp}
use Rattle.mau_lists.specs.Following.{choose, first_above, or_else, alone, after_front, next_sub_list, next_front, next_part, least_of}

choose-map : {B C : Type 0} (f : B → C) (o : Ordering) (a b c : Option B) → option_map f (choose o a b c) ≡ choose o (option_map f a) (option_map f b) (option_map f c)
choose-map f Less a b c = refl
choose-map f Equal a b c = refl
choose-map f Greater a b c = refl

or_else-map : {B C : Type 0} (f : B → C) (a b : Option B) → option_map f (or_else a b) ≡ or_else (option_map f a) (option_map f b)
or_else-map f None b = refl
or_else-map f (Some x) b = refl

module _ {A B : Type 0} (key : A → B) (cmp : B → B → Ordering) where
  abbrev pub by_key : A → A → Ordering
  by_key x y = cmp (key x) (key y)

  abbrev keys : Option (List A) → Option (List B)
  keys o = option_map (map key) o

  after_front-map : (x : A) (o : Option (List A)) → keys (after_front (x ∷ []) o) ≡ after_front (key x ∷ []) (keys o)
  after_front-map x None = refl
  after_front-map x (Some s) = refl

  alone-map : (o : Option A) → keys (alone o) ≡ alone (option_map key o)
  alone-map None = refl
  alone-map (Some z) = refl

  first_above-keys : (x : A) (ys : List A) → option_map key (first_above by_key x ys) ≡ first_above cmp (key x) (map key ys)
  first_above-keys x [] = refl
  first_above-keys x (y ∷ ys) =
      choose-map key (cmp (key x) (key y)) (Some y) (first_above by_key x ys) (first_above by_key x ys)
      ∙ ap (λ o. choose (cmp (key x) (key y)) (Some (key y)) o o) (first_above-keys x ys)

  pub next_sub_list-keys : (xs ys : List A) → keys (next_sub_list by_key xs ys) ≡ next_sub_list cmp (map key xs) (map key ys)
  next_sub_list-keys xs [] = none xs
    where
      none : (xs : List A) → keys (next_sub_list by_key xs []) ≡ next_sub_list cmp (map key xs) []
      none [] = refl
      none (x ∷ xs) = refl
  next_sub_list-keys [] (y ∷ ys) = refl
  next_sub_list-keys (x ∷ xs) (y ∷ ys) =
      choose-map (map key) (cmp (key x) (key y)) (Some (y ∷ [])) (or_else (after_front (x ∷ []) (next_sub_list by_key xs ys)) (alone (first_above by_key x ys))) (next_sub_list by_key (x ∷ xs) ys)
      ∙ ap₂ (λ a b. choose (cmp (key x) (key y)) (Some (key y ∷ [])) a b)
      (or_else-map (map key) (after_front (x ∷ []) (next_sub_list by_key xs ys)) (alone (first_above by_key x ys))
      ∙ ap₂ (λ a b. or_else a b)
      (after_front-map x (next_sub_list by_key xs ys) ∙ ap (after_front (key x ∷ [])) (next_sub_list-keys xs ys))
      (alone-map (first_above by_key x ys) ∙ ap alone (first_above-keys x ys)))
      (next_sub_list-keys (x ∷ xs) ys)

  pub next_front-keys : (xs ys : List A) → keys (next_front by_key xs ys) ≡ next_front cmp (map key xs) (map key ys)
  next_front-keys xs [] = none xs
    where
      none : (xs : List A) → keys (next_front by_key xs []) ≡ next_front cmp (map key xs) []
      none [] = refl
      none (x ∷ xs) = refl
  next_front-keys [] (y ∷ ys) = refl
  next_front-keys (x ∷ xs) (y ∷ ys) =
      choose-map (map key) (cmp (key x) (key y)) (Some (y ∷ [])) (after_front (y ∷ []) (next_front by_key xs ys)) None
      ∙ ap (λ a. choose (cmp (key x) (key y)) (Some (key y ∷ [])) a None) (after_front-map y (next_front by_key xs ys) ∙ ap (after_front (key y ∷ [])) (next_front-keys xs ys))

  slice_cmp-keys : (xs ys : List A) → slice_cmp by_key xs ys ≡ slice_cmp cmp (map key xs) (map key ys)
  slice_cmp-keys [] [] = refl
  slice_cmp-keys [] (y ∷ ys) = refl
  slice_cmp-keys (x ∷ xs) [] = refl
  slice_cmp-keys (x ∷ xs) (y ∷ ys) = ap (ordering_then (cmp (key x) (key y))) (slice_cmp-keys xs ys)

  least_of-keys : (o p : Option (List A)) → keys (least_of by_key o p) ≡ least_of cmp (keys o) (keys p)
  least_of-keys None p = refl
  least_of-keys (Some s) None = refl
  least_of-keys (Some s) (Some t) =
      choose-map (map key) (slice_cmp by_key s t) (Some s) (Some s) (Some t)
      ∙ ap (λ o. choose o (Some (map key s)) (Some (map key s)) (Some (map key t))) (slice_cmp-keys s t)

  pub next_part-keys : (xs ys : List A) → keys (next_part by_key xs ys) ≡ next_part cmp (map key xs) (map key ys)
  next_part-keys xs [] = refl
  next_part-keys xs (y ∷ ys) =
      least_of-keys (next_front by_key xs (y ∷ ys)) (next_part by_key xs ys)
      ∙ ap₂ (λ a b. least_of cmp a b) (next_front-keys xs (y ∷ ys)) (next_part-keys xs ys)
