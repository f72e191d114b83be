-- A list of terms one of which has the successor over the greatest numeral, and lists that are one term.
use Rattle.std.proofs.Common.{◌≡◌, ◌≢◌, ℕ, ◌+◌, ◌≤◌, ◌<◌, zero, suc, List, [], ◌∷◌, ◌++◌, length, map, take, get_or, Bool, true, false, nat_eq, ◌&&◌, ◌||◌, refl, sym, ◌∙◌, ap, eqb-true, arith}
use Rattle.mau_terms.specs.Tree.{Tree, variable, numeral, apply, Trees, tree, trees_of, node}
use Rattle.mau_terms.specs.Depth.{depth, list_depth, depths-trees_of}
use Rattle.mau_terms.specs.Norm.{is_greatest_numeral}
use Rattle.mau_terms.specs.View.{tree_of}
use Rattle.mau_terms.specs.declared.bare.Bare.{Bare}
use Rattle.mau_signature.specs.Attributes.{has_number}
use Rattle.mau_signature.proofs.Lows.{take-step}
use Rattle.mau_parse.specs.Overflow.{overflows, some_overflow}

-- ---- one term

not_greatest : (t u : Tree) (us : Trees) → is_greatest_numeral (tree t (tree u us)) ≡ false
not_greatest (variable i s) u us = refl
not_greatest (numeral n) u us = refl
not_greatest (apply f ts) u us = refl

not_one : (n : ℕ) → n ≢ 1 → nat_eq n 1 ≡ false
not_one n h = by (nat_eq n 1) refl
  where
    by : (b : Bool) → nat_eq n 1 ≡ b → b ≡ false
    by true e = absurd (h (eqb-true n 1 e))
    by false e = refl

none_greatest : (xs : List Bare) → length xs ≢ 1 → is_greatest_numeral (trees_of (map tree_of xs)) ≡ false
none_greatest [] n = refl
none_greatest (x ∷ []) n = absurd (n refl)
none_greatest (x ∷ y ∷ xs) n = not_greatest (tree_of x) (tree_of y) (trees_of (map tree_of xs))

pub only_greatest : (xs : List Bare) → length xs ≢ 1 → nat_eq (length xs) 1 ≡ is_greatest_numeral (trees_of (map tree_of xs))
only_greatest xs n = not_one (length xs) n ∙ sym (none_greatest xs n)

-- ---- some terms

true_last : (b : Bool) → (b || true) ≡ true
true_last true = refl
true_last false = refl

pub some_at : (ss : List ℕ) (xs : List Bare) (i : ℕ) (x : Bare) → i < length xs → x ≡ get_or xs i x → overflows ss (tree_of x) ≡ true → some_overflow ss (trees_of (map tree_of xs)) ≡ true
some_at ss [] i x h e o = absurd (omega arith)
some_at ss (y ∷ xs) zero x h e o = ap (λ b. b || some_overflow ss (trees_of (map tree_of xs))) (ap (λ z. overflows ss (tree_of z)) (sym e) ∙ o)
some_at ss (y ∷ xs) (suc i) x h e o = ap (λ b. overflows ss (tree_of y) || b) (some_at ss xs i x (omega arith) e o) ∙ true_last (overflows ss (tree_of y))

none_last : (ss : List ℕ) (xs : List Bare) (x : Bare) → some_overflow ss (trees_of (map tree_of xs)) ≡ false → overflows ss (tree_of x) ≡ false → some_overflow ss (trees_of (map tree_of (xs ++ x ∷ []))) ≡ false
none_last ss [] x h o = ap (λ b. b || false) o
none_last ss (y ∷ xs) x h o = by (overflows ss (tree_of y)) h (none_last ss xs x)
  where
    by : (b : Bool) → (b || some_overflow ss (trees_of (map tree_of xs))) ≡ false
        → (some_overflow ss (trees_of (map tree_of xs)) ≡ false → overflows ss (tree_of x) ≡ false → some_overflow ss (trees_of (map tree_of (xs ++ x ∷ []))) ≡ false)
        → (b || some_overflow ss (trees_of (map tree_of (xs ++ x ∷ [])))) ≡ false
    by true k ih = cc
    by false k ih = ih k o

pub none_more : (ss : List ℕ) (xs : List Bare) (i : ℕ) (x : Bare) → i < length xs → x ≡ get_or xs i x → some_overflow ss (trees_of (map tree_of (take i xs))) ≡ false → overflows ss (tree_of x) ≡ false
    → some_overflow ss (trees_of (map tree_of (take (i + 1) xs))) ≡ false
none_more ss xs i x h e k o = ap (λ ys. some_overflow ss (trees_of (map tree_of ys))) (take-step xs i x h e) ∙ none_last ss (take i xs) x k o

pub overflow_below : (ss : List ℕ) (t : Tree) (f : ℕ) (ts : List Tree) (xs : List Bare) → t ≡ node f ts → map tree_of xs ≡ ts → some_overflow ss (trees_of (map tree_of xs)) ≡ true → overflows ss t ≡ true
overflow_below ss t f ts xs e m h =
    ap (overflows ss) e ∙ ap (λ us. overflows ss (node f us)) (sym m) ∙ ap (λ b. (has_number ss f && is_greatest_numeral (trees_of (map tree_of xs))) || b) h ∙ true_last (has_number ss f && is_greatest_numeral (trees_of (map tree_of xs)))

-- ---- arguments are less deep

at_most : (xs : List Bare) (i : ℕ) (x : Bare) → i < length xs → depth (tree_of (get_or xs i x)) ≤ list_depth (map tree_of xs)
at_most [] i x h = absurd (omega arith)
at_most (y ∷ xs) zero x h = omega arith
at_most (y ∷ xs) (suc i) x h = omega (arith, at_most xs i x (omega arith))

pub argument_falls : (t : Tree) (f : ℕ) (ts : List Tree) (xs : List Bare) (i : ℕ) (x : Bare) → t ≡ node f ts → map tree_of xs ≡ ts → i < length xs → x ≡ get_or xs i x → depth (tree_of x) < depth t
argument_falls t f ts xs i x e m h a =
    omega (arith, at_most xs i x h, ap (λ y. depth (tree_of y)) a, ap depth e, depths-trees_of ts, ap list_depth m)
