-- Beginnings of lists.
use Rattle.std.proofs.Common.{◌≡◌, ℕ, zero, suc, ◌≤◌, List, [], ◌∷◌, ◌++◌, true, false, Some, None, take, length, get_or, slice_get, ltb, refl, sym, ap, ◌∙◌, arith}
use Rattle.std.proofs.lemmas.Bool.{ltb-true, ltb-false}
use Rattle.std.proofs.lemmas.Option.{slice_get_read, slice_get_past}

pub take_less : {A : Type 0} (m n : ℕ) (xs ys : List A) → m ≤ n → take n xs ≡ take n ys → take m xs ≡ take m ys
take_less {A = A} m n xs ys h e = sym (twice m n xs h) ∙ (ap (take m) e ∙ twice m n ys h)
  where
    twice : (m n : ℕ) (xs : List A) → m ≤ n → take m (take n xs) ≡ take m xs
    twice zero n xs h = refl
    twice (suc m) zero xs h = absurd (omega (arith, h))
    twice (suc m) (suc n) [] h = refl
    twice (suc m) (suc n) (x ∷ xs) h = ap (λ zs. x ∷ zs) (twice m n xs (omega (arith, h)))

pub take_twice : {A : Type 0} (n : ℕ) (xs : List A) → take n (take n xs) ≡ take n xs
take_twice zero xs = refl
take_twice (suc n) [] = refl
take_twice (suc n) (x ∷ xs) = ap (λ zs. x ∷ zs) (take_twice n xs)

pub take_front : {A : Type 0} (n : ℕ) (xs ys : List A) → n ≡ length xs → take n (xs ++ ys) ≡ xs
take_front zero [] ys h = refl
take_front zero (x ∷ xs) ys h = absurd (omega (arith, h))
take_front (suc n) [] ys h = absurd (omega (arith, h))
take_front (suc n) (x ∷ xs) ys h = ap (λ zs. x ∷ zs) (take_front n xs ys (omega (arith, h)))

pub no_end : {A : Type 0} (xs : List A) → xs ++ [] ≡ xs
no_end [] = refl
no_end (x ∷ xs) = ap (λ zs. x ∷ zs) (no_end xs)

-- an element that was read
pub read_place : {A : Type 0} (xs : List A) (i : ℕ) (x y : A) → true ≡ ltb i (length xs) → x ≡ get_or xs i x → x ≡ y → slice_get xs i ≡ Some y
read_place xs i x y w e f = slice_get_read xs (length xs) i x refl (ltb-true i (length xs) (sym w)) e ∙ ap (λ z. Some z) f

pub read_end : {A : Type 0} (xs : List A) (i : ℕ) → false ≡ ltb i (length xs) → slice_get xs i ≡ None
read_end xs i w = slice_get_past xs i (ltb-false i (length xs) (sym w))
