-- Looking for the first element that passes a test, from some place on.
use Rattle.std.proofs.Common.{◌≡◌, ℕ, suc, ◌+◌, ◌<◌, ◌≤◌, List, ◌∷◌, length, drop, get_or, Bool, true, false, Some, None, map, cond, ap, ◌∙◌, sym, add-one, drop-cons}
use Rattle.std.specs.List.{find}
use Rattle.std.proofs.lemmas.List.{drop_all}

first_passes : {X : Type 0} (test : X → Bool) (x : X) (xs : List X) → test x ≡ true → find test (x ∷ xs) ≡ Some x
first_passes test x xs e = ap (λ b. cond b (Some x) (find test xs)) e

first_fails : {X : Type 0} (test : X → Bool) (x : X) (xs : List X) → test x ≡ false → find test (x ∷ xs) ≡ find test xs
first_fails test x xs e = ap (λ b. cond b (Some x) (find test xs)) e

-- at a place whose element passes, it is that element
pub find_here : {X Y : Type 0} (f : X → Y) (test : Y → Bool) (xs : List X) (i : ℕ) (x : X) → i < length xs → x ≡ get_or xs i x → test (f x) ≡ true
    → find test (map f (drop i xs)) ≡ Some (f x)
find_here f test xs i x h e t =
    ap (λ ys. find test (map f ys)) (drop-cons xs i x h) ∙ first_passes test (f (get_or xs i x)) (map f (drop (suc i) xs)) (ap (λ y. test (f y)) (sym e) ∙ t) ∙ ap (λ y. Some (f y)) (sym e)

-- and else it is what is found further on
pub find_further : {X Y : Type 0} (f : X → Y) (test : Y → Bool) (xs : List X) (i : ℕ) (x : X) → i < length xs → x ≡ get_or xs i x → test (f x) ≡ false
    → find test (map f (drop i xs)) ≡ find test (map f (drop (i + 1) xs))
find_further f test xs i x h e t =
    rw add-one (ap (λ ys. find test (map f ys)) (drop-cons xs i x h) ∙ first_fails test (f (get_or xs i x)) (map f (drop (suc i) xs)) (ap (λ y. test (f y)) (sym e) ∙ t))
