-- A name that is added where it is not there yet leaves all names distinct.
use Rattle.std.proofs.Common.{◌≡◌, ◌≢◌, ℕ, zero, suc, ◌<◌, List, [], ◌∷◌, ◌++◌, Bool, true, false, cond, ◌||◌, length, get_or, refl, sym, ap, ◌∙◌, subst, arith}
use Rattle.std.specs.Prelude.{bytes_eq}
use Rattle.std.proofs.lemmas.List.Quantifiers.{all_pairs_push}
use Rattle.std.proofs.lemmas.Slice.Eq.{bytes_eq-Decides}
use Rattle.mau_grammar.specs.Names.{AreDistinct}
use Rattle.mau_declare.specs.Names.{has_name, with_name}

not_there : (names : List (List ℕ)) (x : List ℕ) (k : ℕ) (d : List ℕ) → has_name names x ≡ false → k < length names → get_or names k d ≢ x
not_there [] x k d n l = absurd (omega (arith, l))
not_there (y ∷ ys) x zero d n l = λ e. by (bytes_eq x y) refl ((bytes_eq-Decides x y).1 (sym e)) n
  where
    by : (b : Bool) → bytes_eq x y ≡ b → bytes_eq x y ≡ true → (bytes_eq x y || has_name ys x) ≡ false → ⊥
    by b h t n = let m = ap (λ b. b || has_name ys x) (sym t) ∙ n in absurd cc
not_there (y ∷ ys) x (suc k) d n l = not_there ys x k d (by (bytes_eq x y) refl) (omega (arith, l))
  where
    by : (b : Bool) → bytes_eq x y ≡ b → has_name ys x ≡ false
    by true h = let m = ap (λ b. b || has_name ys x) (sym h) ∙ n in absurd cc
    by false h = ap (λ b. b || has_name ys x) (sym h) ∙ n

pub with_distinct : (names : List (List ℕ)) (x : List ℕ) → AreDistinct names → AreDistinct (with_name names x)
with_distinct names x a = by (has_name names x) refl
  where
    by : (b : Bool) → has_name names x ≡ b → AreDistinct (cond (has_name names x) names (names ++ x ∷ []))
    by true h = subst (λ b. AreDistinct (cond b names (names ++ x ∷ []))) (sym h) a
    by false h = subst (λ b. AreDistinct (cond b names (names ++ x ∷ []))) (sym h) (all_pairs_push (λ a b. a ≢ b) names x a (λ k d l. not_there names x k d h l))
