-- Lists that get longer.
use Rattle.std.proofs.Common.{◌≡◌, ℕ, zero, suc, ◌<◌, List, [], ◌∷◌, ◌++◌, All, Contains, map, length, take, get_or, refl, sym, ap, ◌∙◌, subst, arith, append_assoc, append-nil}
use Rattle.std.proofs.lemmas.List.Elements.{All-nil, All-cons, All-head, All-tail, All-append, All-contains_itself}
use Rattle.mau_trial.proofs.Among.{in_map}
use Rattle.mau_plain.specs.Words.{HasWords, each_longer}

module _ {A : Type 0} where
  pub each_longer-more : (xs : List A) (ws : List (List A)) (i : ℕ) (d : List A) → i < length ws → each_longer xs (take (suc i) ws) ≡ each_longer xs (take i ws) ++ map (λ x. x ∷ get_or ws i d) xs
  each_longer-more xs [] i d h = absurd (omega arith)
  each_longer-more xs (w ∷ ws) zero d h = append-nil (map (λ x. x ∷ w) xs)
  each_longer-more xs (w ∷ ws) (suc i) d h =
      ap (λ r. map (λ x. x ∷ w) xs ++ r) (each_longer-more xs ws i d (omega arith))
      ∙ sym (append_assoc (map (λ x. x ∷ w) xs) (each_longer xs (take i ws)) (map (λ x. x ∷ get_or ws i d) xs))

  -- ---- elements

  in_left : (x : A) (xs ys : List A) → Contains xs x → Contains (xs ++ ys) x
  in_left x [] ys c = let below = c.1 in absurd (omega arith)
  in_left x (z ∷ xs) ys (zero, h, e) = (zero, omega arith, e)
  in_left x (z ∷ xs) ys (suc k, h, e) = let rest = in_left x xs ys (k, omega arith, e) in let lt = rest.1 in (suc rest.0, omega arith, rest.2)

  in_right : (x : A) (xs ys : List A) → Contains ys x → Contains (xs ++ ys) x
  in_right x [] ys c = c
  in_right x (z ∷ xs) ys c = let rest = in_right x xs ys c in let lt = rest.1 in (suc rest.0, omega arith, rest.2)

module _ {A : Type 0} (xs : List A) where
  longer_has : (x : A) (w : List A) (ws : List (List A)) → Contains xs x → Contains ws w → Contains (each_longer xs ws) (x ∷ w)
  longer_has x w [] c d = let below = d.1 in absurd (omega arith)
  longer_has x w (v ∷ ws) c (zero, h, e) = in_left (x ∷ w) (map (λ y. y ∷ v) xs) (each_longer xs ws) (subst (λ u. Contains (map (λ y. y ∷ v) xs) (x ∷ u)) e (in_map (λ y. y ∷ v) x xs c))
  longer_has x w (v ∷ ws) c (suc k, h, e) = in_right (x ∷ w) (map (λ y. y ∷ v) xs) (each_longer xs ws) (longer_has x w ws c (k, omega arith, e))

  front : {B : Type 0} (y : B) (ys : List B) → Contains (y ∷ ys) y
  front y ys = (zero, omega arith, refl)

  behind : {B : Type 0} (x y : B) (ys : List B) → Contains ys x → Contains (y ∷ ys) x
  behind x y ys c = let lt = c.1 in (suc c.0, omega arith, c.2)

  pub no_words : (ws : List (List A)) → HasWords xs 0 ([] ∷ ws)
  no_words ws [] all short = front [] ws
  no_words ws (x ∷ w) all short = absurd (omega arith)

  pub more_words : (n : ℕ) (ws : List (List A)) → HasWords xs n ws → HasWords xs (suc n) ([] ∷ each_longer xs ws)
  more_words n ws has [] all short = front [] (each_longer xs ws)
  more_words n ws has (x ∷ w) all short =
      behind (x ∷ w) [] (each_longer xs ws)
      (longer_has x w ws (All-head (Contains xs) x w all) (has w (All-tail (Contains xs) x w all) (omega arith)))

  -- each element is one of xs
  fronts_among : (ys : List A) (w : List A) → All (Contains xs) ys → All (Contains xs) w → All (All (Contains xs)) (map (λ y. y ∷ w) ys)
  fronts_among [] w all rest = All-nil (All (Contains xs))
  fronts_among (y ∷ ys) w all rest =
      All-cons (All (Contains xs)) (y ∷ w) (map (λ z. z ∷ w) ys) (All-cons (Contains xs) y w (All-head (Contains xs) y ys all) rest) (fronts_among ys w (All-tail (Contains xs) y ys all) rest)

  itself : All (Contains xs) xs
  itself = All-contains_itself xs

  each_among : (ws : List (List A)) → All (All (Contains xs)) ws → All (All (Contains xs)) (each_longer xs ws)
  each_among [] all = All-nil (All (Contains xs))
  each_among (w ∷ ws) all =
      All-append (All (Contains xs)) (map (λ y. y ∷ w) xs) (each_longer xs ws)
      (fronts_among xs w itself (All-head (All (Contains xs)) w ws all)) (each_among ws (All-tail (All (Contains xs)) w ws all))

  pub longer_among : (ws : List (List A)) → All (All (Contains xs)) ws → All (All (Contains xs)) ([] ∷ each_longer xs ws)
  longer_among ws all = All-cons (All (Contains xs)) [] (each_longer xs ws) (All-nil (Contains xs)) (each_among ws all)
