-- Variables copied one by one, and a tree with other places of its variables.
use Rattle.std.proofs.Common.{◌≡◌, ℕ, zero, suc, ◌+◌, List, [], ◌∷◌, ◌++◌, take, Bool, true, false, ◌&&◌, ◌||◌, if◌then◌else◌, Some, slice_get, refl, sym, ◌∙◌, ap, ap₂, subst}
use Rattle.std.specs.List.{list_any}
use Rattle.std.proofs.lemmas.List.{take_more}
use Rattle.std.proofs.lemmas.Option.{slice_get_within, get_or_from_slice_get, none-some}
use Rattle.mau_terms.specs.Tree.{Tree, variable, numeral, apply, Trees, no_trees, tree}
use Rattle.mau_terms.specs.Norm.{is_greatest_numeral}
use Rattle.mau_terms.specs.Vars.{same_pair, with_pair, AreDistinct}
use Rattle.mau_terms.proofs.Pairs.{same_pair-is, same_pair_itself}
use Rattle.mau_signature.specs.Attributes.{has_number}
use Rattle.mau_parse.specs.Terms.{renamed, all_renamed}
use Rattle.mau_parse.specs.Overflow.{overflows, some_overflow}
use Rattle.mau_parse.proofs.LeavesListed.{any_there}

-- ---- a copy

other_way : (x y : List ℕ × ℕ) → same_pair y x ≡ false → same_pair x y ≡ false
other_way x y h = by (same_pair x y) refl
  where
    by : (b : Bool) → same_pair x y ≡ b → b ≡ false
    by false e = refl
    by true e = let k : same_pair y x ≡ true = subst (λ z. same_pair y z ≡ true) (sym (same_pair-is x y e)) (same_pair_itself y) in cc

none_before : (xs : List (List ℕ × ℕ)) (i : ℕ) (x : List ℕ × ℕ) → AreDistinct xs → slice_get xs i ≡ Some x → list_any (same_pair x) (take i xs) ≡ false
none_before [] i x d e = absurd (none-some x e)
none_before (y ∷ xs) zero x d e = refl
none_before (y ∷ xs) (suc i) x d e =
    ap₂ (λ a b. a || b) (other_way x y (any_there (same_pair y) xs i x d.0 e)) (none_before xs i x d.1 e)

pub copied_more : (xs ys : List (List ℕ × ℕ)) (i : ℕ) (x : List ℕ × ℕ) → AreDistinct xs → slice_get xs i ≡ Some x → ys ≡ take i xs → with_pair ys x ≡ take (i + 1) xs
copied_more xs ys i x d e h =
    ap (λ zs. with_pair zs x) h
    ∙ ap (λ b. if b then take i xs else take i xs ++ x ∷ []) (none_before xs i x d e)
    ∙ ap (λ z. take i xs ++ z ∷ []) (sym (get_or_from_slice_get xs i x x e))
    ∙ sym (take_more xs i x (slice_get_within xs i x e))

-- ---- an overflow stays one

greatest-renamed : (ps xs : List (List ℕ × ℕ)) (ts : Trees) → is_greatest_numeral (all_renamed ps xs ts) ≡ is_greatest_numeral ts
greatest-renamed ps xs no_trees = refl
greatest-renamed ps xs (tree (variable i s) no_trees) = refl
greatest-renamed ps xs (tree (numeral n) no_trees) = refl
greatest-renamed ps xs (tree (apply f us) no_trees) = refl
greatest-renamed ps xs (tree (variable i s) (tree u us)) = refl
greatest-renamed ps xs (tree (numeral n) (tree u us)) = refl
greatest-renamed ps xs (tree (apply f vs) (tree u us)) = refl

mutual
  pub overflows-renamed : (ss : List ℕ) (ps xs : List (List ℕ × ℕ)) (t : Tree) → overflows ss (renamed ps xs t) ≡ overflows ss t
  overflows-renamed ss ps xs (variable i s) = refl
  overflows-renamed ss ps xs (numeral n) = refl
  overflows-renamed ss ps xs (apply f ts) = ap₂ (λ a b. (has_number ss f && a) || b) (greatest-renamed ps xs ts) (some-renamed ss ps xs ts)

  some-renamed : (ss : List ℕ) (ps xs : List (List ℕ × ℕ)) (ts : Trees) → some_overflow ss (all_renamed ps xs ts) ≡ some_overflow ss ts
  some-renamed ss ps xs no_trees = refl
  some-renamed ss ps xs (tree t ts) = ap₂ (λ a b. a || b) (overflows-renamed ss ps xs t) (some-renamed ss ps xs ts)
