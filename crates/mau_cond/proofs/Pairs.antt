-- Variables with their values, in two lists and as pairs.
use Rattle.std.proofs.Common.{◌≡◌, ℕ, zero, suc, ◌+◌, ◌<◌, ◌≤◌, List, [], ◌∷◌, ◌++◌, Bool, true, false, ◌||◌, if◌then◌else◌, All, map, take, length, get_or, refl, sym, ap, ap₂, ◌∙◌, arith}
use Rattle.std.proofs.Math.Seq.{take-length}
use Rattle.std.proofs.lemmas.List.Elements.{All-head, All-tail, All-nil, All-cons, All-append}
use Rattle.std.specs.List.{zip, list_any}
use Rattle.mau_terms.specs.Subst.{same_variable}
use Rattle.mau_terms.specs.View.{variable_of}
use Rattle.mau_terms.specs.declared.ids.VarId.{VarId}
use Rattle.mau_terms.specs.declared.ids.TermId.{TermId}
use Rattle.mau_cond.specs.Bound.{is_bound, extended}
use Rattle.mau_cond.proofs.Lists.{take_less, take_front}

-- ---- two lists

module _ {A B : Type 0} where
  pub firsts : (xs : List A) (ys : List B) → length xs ≡ length ys → map (λ (p : A × B). p.0) (zip xs ys) ≡ xs
  firsts [] ys e = refl
  firsts (x ∷ xs) [] e = absurd (omega (arith, e))
  firsts (x ∷ xs) (y ∷ ys) e = ap (λ zs. x ∷ zs) (firsts xs ys (omega (arith, e)))

  pub seconds : (xs : List A) (ys : List B) → length xs ≡ length ys → map (λ (p : A × B). p.1) (zip xs ys) ≡ ys
  seconds [] [] e = refl
  seconds [] (y ∷ ys) e = absurd (omega (arith, e))
  seconds (x ∷ xs) [] e = absurd (omega (arith, e))
  seconds (x ∷ xs) (y ∷ ys) e = ap (λ zs. y ∷ zs) (seconds xs ys (omega (arith, e)))

  pub zipped_length : (xs : List A) (ys : List B) → length xs ≡ length ys → length xs ≡ length (zip xs ys)
  zipped_length [] ys e = refl
  zipped_length (x ∷ xs) [] e = absurd (omega (arith, e))
  zipped_length (x ∷ xs) (y ∷ ys) e = let q = zipped_length xs ys (omega (arith, e)) in omega (arith, q)

  pub zipped_take : (n : ℕ) (xs : List A) (ys : List B) → zip (take n xs) (take n ys) ≡ take n (zip xs ys)
  zipped_take zero [] ys = refl
  zipped_take zero (x ∷ xs) [] = refl
  zipped_take zero (x ∷ xs) (y ∷ ys) = refl
  zipped_take (suc n) [] ys = refl
  zipped_take (suc n) (x ∷ xs) [] = refl
  zipped_take (suc n) (x ∷ xs) (y ∷ ys) = ap (λ zs. (x, y) ∷ zs) (zipped_take n xs ys)

  pub zipped_end : (xs : List A) (ys : List B) (x : A) (y : B) → length xs ≡ length ys → zip (xs ++ x ∷ []) (ys ++ y ∷ []) ≡ zip xs ys ++ (x, y) ∷ []
  zipped_end [] [] x y e = refl
  zipped_end [] (z ∷ ys) x y e = absurd (omega (arith, e))
  zipped_end (z ∷ xs) [] x y e = absurd (omega (arith, e))
  zipped_end (z ∷ xs) (w ∷ ys) x y e = ap (λ zs. (z, w) ∷ zs) (zipped_end xs ys x y (omega (arith, e)))

-- ---- pairs that are added

pub bound_here : (xs : List VarId) (ys : List TermId) (x : VarId) → length xs ≡ length ys →
    list_any (λ y. same_variable (variable_of y) (variable_of x)) xs ≡ is_bound (zip xs ys) x
bound_here [] ys x e = refl
bound_here (z ∷ xs) [] x e = absurd (omega (arith, e))
bound_here (z ∷ xs) (y ∷ ys) x e = ap (λ b. same_variable (variable_of z) (variable_of x) || b) (bound_here xs ys x (omega (arith, e)))

long_end : (bs : List (VarId × TermId)) (b : VarId × TermId) → length (bs ++ b ∷ []) ≡ suc (length bs)
long_end [] b = refl
long_end (x ∷ bs) b = ap suc (long_end bs b)

-- more are added behind those that there are
pub added : (more bs : List (VarId × TermId)) → (take (length bs) (extended bs more) ≡ bs) × (length bs ≤ length (extended bs more))
added [] bs = (take-length bs, same (length bs))
  where
    same : (n : ℕ) → n ≤ n
    same n = omega arith
added (b ∷ more) bs = by (is_bound bs b.0) (added more)
  where
    by : (w : Bool) → ((cs : List (VarId × TermId)) → (take (length cs) (extended cs more) ≡ cs) × (length cs ≤ length (extended cs more))) →
        (take (length bs) (extended (if w then bs else bs ++ b ∷ []) more) ≡ bs) × (length bs ≤ length (extended (if w then bs else bs ++ b ∷ []) more))
    by true h = h bs
    by false h =
        let q = h (bs ++ b ∷ []) in
        let n = long_end bs b in
        let less : length bs ≤ length (bs ++ b ∷ []) = omega (arith, n) in (
          take_less (length bs) (length (bs ++ b ∷ [])) (extended (bs ++ b ∷ []) more) (bs ++ b ∷ []) less (q.0 ∙ sym (take-length (bs ++ b ∷ []))) ∙ take_front (length bs) bs (b ∷ []) refl,
          omega (arith, less, q.1),
        )

pub all_extended : (P : VarId × TermId → Type 0) (more bs : List (VarId × TermId)) → All P bs → All P more → All P (extended bs more)
all_extended P [] bs h k = h
all_extended P (b ∷ more) bs h k = by (is_bound bs b.0) (λ cs g. all_extended P more cs g (All-tail P b more k))
  where
    by : (w : Bool) → ((cs : List (VarId × TermId)) → All P cs → All P (extended cs more)) → All P (extended (if w then bs else bs ++ b ∷ []) more)
    by true g = g bs h
    by false g = g (bs ++ b ∷ []) (All-append P bs (b ∷ []) h (All-cons P b [] (All-head P b more k) (All-nil P)))

-- ---- a loop over two lists

next_one : (i : ℕ) → suc i ≡ i + 1
next_one i = omega arith

pub pairs_next : {A B : Type 0} (xs : List A) (ys : List B) (i : ℕ) (x : A) (y : B) → i < length xs → length xs ≡ length ys → x ≡ get_or xs i x → y ≡ get_or ys i y →
    take i (zip xs ys) ++ (x, y) ∷ [] ≡ take (i + 1) (zip xs ys)
pairs_next [] ys i x y h e p q = absurd (omega (arith, h))
pairs_next (a ∷ xs) [] i x y h e p q = absurd (omega (arith, e))
pairs_next (a ∷ xs) (b ∷ ys) zero x y h e p q = ap₂ (λ u v. (u, v) ∷ []) p q
pairs_next (a ∷ xs) (b ∷ ys) (suc i) x y h e p q =
    ap (λ zs. (a, b) ∷ zs) (pairs_next xs ys i x y (omega (arith, h)) (omega (arith, e)) p q)
    ∙ ap (λ n. take n ((a, b) ∷ zip xs ys)) (ap suc (sym (next_one i)) ∙ next_one (suc i))
