-- Lists of lists, counted and searched.
use Rattle.std.proofs.Common.{◌≡◌, ℕ, zero, suc, ◌+◌, ◌-◌, ◌<◌, ◌≤◌, List, [], ◌∷◌, ◌++◌, Option, Some, None, length, get_or, take, drop, map, refl, sym, ap, ap₂, ◌∙◌, add-one, arith, subst, All}
use Rattle.std.specs.Prelude.{slice_get}
use Rattle.std.specs.List.{flat_map, filter_map}
use Rattle.std.proofs.lemmas.List.Elements.{filter_map-append, All-push, All-append}
use Rattle.std.proofs.lemmas.List.{length-append, append_assoc, map_more}
use Rattle.std.proofs.lemmas.Option.{slice_get-get_or}
use Rattle.std.proofs.Math.Seq.{drop-cons, take-suc}

right_nil : {Y : Type 0} (ys : List Y) → ys ++ [] ≡ ys
right_nil [] = refl
right_nil (y ∷ ys) = ap (λ zs. y ∷ zs) (right_nil ys)

module _ {X Y : Type 0} (f : X → List Y) where
  pub flat_append : (xs ys : List X) → flat_map f (xs ++ ys) ≡ flat_map f xs ++ flat_map f ys
  flat_append [] ys = refl
  flat_append (x ∷ xs) ys = ap (λ zs. f x ++ zs) (flat_append xs ys) ∙ sym (assoc (f x) (flat_map f xs) (flat_map f ys))
    where
      assoc : (us vs ws : List Y) → (us ++ vs) ++ ws ≡ us ++ (vs ++ ws)
      assoc [] vs ws = refl
      assoc (u ∷ us) vs ws = ap (λ zs. u ∷ zs) (assoc us vs ws)

  module _ (xs : List X) (i : ℕ) (d : X) (l : i < length xs) where
    pub flat_more : flat_map f (take (i + 1) xs) ≡ flat_map f (take i xs) ++ f (get_or xs i d)
    flat_more =
        ap (λ k. flat_map f (take k xs)) (add-one i) ∙ ap (flat_map f) (take-suc xs i d l) ∙ flat_append (take i xs) (get_or xs i d ∷ [])
        ∙ ap (λ zs. flat_map f (take i xs) ++ zs) (right_nil (f (get_or xs i d)))

    pub flat_counted : length (flat_map f (take (i + 1) xs)) ≡ length (flat_map f (take i xs)) + length (f (get_or xs i d))
    flat_counted = ap length flat_more ∙ length-append (flat_map f (take i xs)) (f (get_or xs i d))

    pub flat_rest : flat_map f (drop i xs) ≡ f (get_or xs i d) ++ flat_map f (drop (i + 1) xs)
    flat_rest = ap (flat_map f) (drop-cons xs i d l) ∙ ap (λ k. f (get_or xs i d) ++ flat_map f (drop k xs)) (sym (add-one i))

pub get_front : {Y : Type 0} (xs ys : List Y) (n : ℕ) → n < length xs → slice_get (xs ++ ys) n ≡ slice_get xs n
get_front [] ys n h = absurd (omega (arith, h))
get_front (x ∷ xs) ys zero h = refl
get_front (x ∷ xs) ys (suc n) h = get_front xs ys n (omega (arith, h))

pub get_behind : {Y : Type 0} (xs ys : List Y) (n : ℕ) → length xs ≤ n → slice_get (xs ++ ys) n ≡ slice_get ys (n - length xs)
get_behind [] ys n h = ap (slice_get ys) (omega arith)
get_behind (x ∷ xs) ys zero h = absurd (omega (arith, h))
get_behind (x ∷ xs) ys (suc n) h = get_behind xs ys n (omega (arith, h)) ∙ ap (slice_get ys) (omega arith)

module _ {X Y : Type 0} (f : X → List Y) (xs : List X) (i : ℕ) (x : X) (l : i < length xs) (at : x ≡ get_or xs i x) (ys : List Y) (its : ys ≡ f x) (n rest : ℕ)
    (so_far : slice_get (flat_map f xs) n ≡ slice_get (flat_map f (drop i xs)) rest) where
  split : slice_get (flat_map f xs) n ≡ slice_get (ys ++ flat_map f (drop (i + 1) xs)) rest
  split = so_far ∙ ap (λ zs. slice_get zs rest) (flat_rest f xs i x l ∙ ap (λ zs. zs ++ flat_map f (drop (i + 1) xs)) (ap f (sym at) ∙ sym its))

  -- it is one of these
  pub found_here : (y : Y) → rest < length ys → y ≡ get_or ys rest y → Some y ≡ slice_get (flat_map f xs) n
  found_here y h e = sym (split ∙ get_front ys (flat_map f (drop (i + 1) xs)) rest h ∙ slice_get-get_or ys rest y h ∙ ap (λ y. Some y) (sym e))

  -- it stands behind them
  pub passed_here : length ys ≤ rest → slice_get (flat_map f xs) n ≡ slice_get (flat_map f (drop (i + 1) xs)) (rest - length ys)
  passed_here h = split ∙ get_behind ys (flat_map f (drop (i + 1) xs)) rest h

-- one more of a list, at the end
pub mapped_more : {X Y : Type 0} (one : X → Y) (xs : List X) (i : ℕ) (x : X) (out out' : List Y) (y : Y) → i < length xs → out ≡ map one (take i xs) → out' ≡ out ++ y ∷ []
    → y ≡ one (get_or xs i x) → out' ≡ map one (take (i + 1) xs)
mapped_more one xs i x out out' y l o p q = p ∙ ap₂ (λ o y. o ++ y ∷ []) o q ∙ sym (map_more one xs i x l)

pub added_more : {X Y : Type 0} (one : X → Y) (xs : List X) (i : ℕ) (x : X) (old out out' : List Y) (y : Y) → i < length xs → out ≡ old ++ map one (take i xs) → out' ≡ out ++ y ∷ []
    → y ≡ one (get_or xs i x) → out' ≡ old ++ map one (take (i + 1) xs)
added_more one xs i x old out out' y l o p q =
    p ∙ ap₂ (λ o y. o ++ y ∷ []) o q ∙ append_assoc old (map one (take i xs)) (one (get_or xs i x) ∷ []) ∙ ap (λ ys. old ++ ys) (sym (map_more one xs i x l))

-- a list whose members are kept as far as a function gives something for them
module _ {X Y : Type 0} (f : X → Option Y) (xs : List X) (i : ℕ) (d : X) (l : i < length xs) (out : List Y) (so_far : out ≡ filter_map f (take i xs)) where
  one_more : filter_map f (take (i + 1) xs) ≡ filter_map f (take i xs) ++ filter_map f (get_or xs i d ∷ [])
  one_more = ap (λ k. filter_map f (take k xs)) (add-one i) ∙ ap (filter_map f) (take-suc xs i d l) ∙ filter_map-append f (take i xs) (get_or xs i d ∷ [])

  some : (x : X) (y : Y) → f x ≡ Some y → filter_map f (x ∷ []) ≡ y ∷ []
  some x y e = rw e refl

  none : (x : X) → f x ≡ None → filter_map f (x ∷ []) ≡ []
  none x e = rw e refl

  -- it gives something for the next
  pub kept_more : (y : Y) (out' : List Y) → f (get_or xs i d) ≡ Some y → out' ≡ out ++ y ∷ [] → out' ≡ filter_map f (take (i + 1) xs)
  kept_more y out' e o = o ∙ ap₂ (λ a b. a ++ b) so_far (sym (some (get_or xs i d) y e)) ∙ sym one_more

  -- it gives nothing
  pub passed_more : (out' : List Y) → f (get_or xs i d) ≡ None → out' ≡ out → out' ≡ filter_map f (take (i + 1) xs)
  passed_more out' e o = o ∙ so_far ∙ sym (one_more ∙ ap (λ b. filter_map f (take i xs) ++ b) (none (get_or xs i d) e) ∙ right_nil (filter_map f (take i xs)))

-- what holds of all so far, and of one more
pub mapped_all : {X Y : Type 0} (P : Y → Type 0) (one : X → Y) (xs : List X) (i : ℕ) (x : X) (y : Y) → i < length xs → All P (map one (take i xs)) → P y → y ≡ one (get_or xs i x)
    → All P (map one (take (i + 1) xs))
mapped_all P one xs i x y l a h e = subst (All P) (sym (map_more one xs i x l)) (All-push P (map one (take i xs)) (one (get_or xs i x)) a (subst P e h))

module _ {X Y : Type 0} (f : X → List Y) (xs : List X) (i : ℕ) (d : X) (l : i < length xs) where
  -- those of one more, behind others
  pub flat_added : (old out out' : List Y) → out ≡ old ++ flat_map f (take i xs) → out' ≡ out ++ f (get_or xs i d) → out' ≡ old ++ flat_map f (take (i + 1) xs)
  flat_added old out out' o p =
      p ∙ ap (λ o. o ++ f (get_or xs i d)) o ∙ append_assoc old (flat_map f (take i xs)) (f (get_or xs i d)) ∙ ap (λ ys. old ++ ys) (sym (flat_more f xs i d l))

  -- what holds of all of them
  pub flat_all : (P : Y → Type 0) → All P (flat_map f (take i xs)) → All P (f (get_or xs i d)) → All P (flat_map f (take (i + 1) xs))
  flat_all P a h = subst (All P) (sym (flat_more f xs i d l)) (All-append P (flat_map f (take i xs)) (f (get_or xs i d)) a h)
