-- Two lists taken together.
use Rattle.std.proofs.Common.{◌≡◌, ◌≤◌, ◌<◌, ◌+◌, ◌++◌, ◌∷◌, [], List, ℕ, zero, suc, length, drop, get_or, min, refl, sym, ap, ap₂, ◌∙◌, arith, append_assoc}
use Rattle.std.specs.List.{zip}
use Rattle.std.specs.Prelude.{Result, Ok, Err, IfOk, map}
use Rattle.mau_terms.specs.Subst.{Variable}
use Rattle.mau_terms.specs.View.{variable_of}
use Rattle.mau_terms.specs.declared.ids.VarId.{VarId}
use Rattle.mau_terms.specs.declared.ids.TermId.{TermId}
use Rattle.std.proofs.lemmas.List.{drop_more, get_or_default}

pub zip_more : {A B : Type 0} (done : List (A × B)) (xs : List A) (ys : List B) (i : ℕ) (x : A) (y : B) → i < length xs → i < length ys → x ≡ get_or xs i x → y ≡ get_or ys i y →
    (done ++ (x, y) ∷ []) ++ zip (drop (i + 1) xs) (drop (i + 1) ys) ≡ done ++ zip (drop i xs) (drop i ys)
zip_more done xs ys i x y h k e f =
    append_assoc done ((x, y) ∷ []) (zip (drop (i + 1) xs) (drop (i + 1) ys))
    ∙ ap (λ zs. done ++ zs) (sym (ap₂ zip (drop_more xs i x h ∙ ap (λ w. w ∷ drop (i + 1) xs) (sym e)) (drop_more ys i y k ∙ ap (λ w. w ∷ drop (i + 1) ys) (sym f))))

pub zip_end : {A B : Type 0} (xs : List A) (ys : List B) (i : ℕ) → min (length xs) (length ys) ≤ i → zip (drop i xs) (drop i ys) ≡ []
zip_end [] ys zero h = refl
zip_end [] ys (suc i) h = refl
zip_end (x ∷ xs) [] zero h = refl
zip_end (x ∷ xs) [] (suc i) h = none (drop i xs)
  where
    none : {A B : Type 0} (zs : List A) → zip {K = A} {X = B} zs [] ≡ []
    none [] = refl
    none (z ∷ zs) = refl
zip_end (x ∷ xs) (y ∷ ys) zero h = absurd (omega arith)
zip_end (x ∷ xs) (y ∷ ys) (suc i) h = zip_end xs ys i (omega arith)

-- the variables of a pattern with values in their places
pub bound_so : {X E : Type 0} (items : X → List (VarId × TermId)) (r : Result X E) (vs : List VarId) (ids values : List TermId) (vars : List Variable) → IfOk r (λ found. items found ≡ zip vs ids) →
    map variable_of vs ≡ vars → ids ≡ values → IfOk r (λ found. (x : List VarId) × (map variable_of x ≡ vars) × (items found ≡ zip x values))
bound_so items (Ok found) vs ids values vars e k h = (vs, k, e ∙ ap (zip vs) h)
bound_so items (Err z) vs ids values vars e k h = tt

-- the pair that is read at one place
pub zip_read : {A B : Type 0} (done all : List (A × B)) (xs : List A) (ys : List B) (i : ℕ) (d : A) (e : B) (more : List (A × B)) → i < min (length xs) (length ys) → more ≡ done ++ (get_or xs i d, get_or ys i e) ∷ [] →
    done ++ zip (drop i xs) (drop i ys) ≡ all → more ++ zip (drop (i + 1) xs) (drop (i + 1) ys) ≡ all
zip_read done all xs ys i d e more h is k =
    ap (λ zs. zs ++ zip (drop (i + 1) xs) (drop (i + 1) ys)) is
    ∙ (zip_more done xs ys i (get_or xs i d) (get_or ys i e) (omega arith) (omega arith) (get_or_default xs i d (get_or xs i d) (omega arith)) (get_or_default ys i e (get_or ys i e) (omega arith)) ∙ k)
