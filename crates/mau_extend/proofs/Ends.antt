-- The ends of a list of values, and the terms that they stand for.
use Rattle.std.proofs.Common.{◌≡◌, ◌≤◌, ◌-◌, ◌+◌, List, [], ◌∷◌, ◌++◌, length, length-append, get_or, Bool, true, false, if◌then◌else◌, refl, sym, ◌∙◌, ap, arith}
use Rattle.mau_terms.specs.Tree.{Tree}
use Rattle.mau_terms.specs.declared.ids.TermId.{TermId}
use Rattle.mau_store.specs.Node.{Node}
use Rattle.mau_store.specs.Trees.{tree_at, trees_at}
use Rattle.mau_store.specs.View.{numbers}
use Rattle.mau_extend.specs.Widened.{before_last, around}

module _ {A : Type 0} where
  last_got : (xs : List A) (r d : A) → get_or (xs ++ r ∷ []) (length (xs ++ r ∷ []) - 1) d ≡ r
  last_got xs r d = ap (λ n. get_or (xs ++ r ∷ []) n d) (let l = length-append xs (r ∷ []) in omega (arith, l)) ∙ there xs
    where
      there : (ys : List A) → get_or (ys ++ r ∷ []) (length ys) d ≡ r
      there [] = refl
      there (y ∷ ys) = there ys

  -- the first and the last element are at their places
  pub around_ends : (h k : Bool) (l : A) (vs : List A) (r d : A) → around h k l vs r ≡ around h k (get_or (around h k l vs r) 0 d) vs (get_or (around h k l vs r) (length (around h k l vs r) - 1) d)
  around_ends false false l vs r d = refl
  around_ends false true l vs r d = ap (λ x. vs ++ x ∷ []) (sym (last_got vs r d))
  around_ends true false l vs r d = refl
  around_ends true true l vs r d = ap (λ x. l ∷ (vs ++ x ∷ [])) (sym (last_got (l ∷ vs) r d))

  pub room_around : (h k : Bool) (l : A) (vs : List A) (r : A) → (if h then 1 else 0) + (if k then 1 else 0) ≤ length (around h k l vs r)
  room_around false false l vs r = omega arith
  room_around false true l vs r = let e = length-append vs (r ∷ []) in omega (arith, e)
  room_around true false l vs r = omega arith
  room_around true true l vs r = let e = length-append vs (r ∷ []) in omega (arith, e)

  -- no element stands between, where there is none at all
  pub none_around : (h k : Bool) (l : A) (vs : List A) (r : A) → length (around h k l vs r) ≡ 0 → (h ≡ false) × (k ≡ false)
  none_around false false l vs r e = (refl, refl)
  none_around false true l vs r e = let n = length-append vs (r ∷ []) in absurd (omega (arith, n, e))
  none_around true k l vs r e = absurd (omega (arith, e))

  -- a list that is long enough has such ends
  split_last : (k : Bool) (xs : List A) (d : A) → (if k then 1 else 0) ≤ length xs → (r : A) × (vs : List A) × (xs ≡ before_last k vs r)
  split_last false xs d e = (d, xs, refl)
  split_last true [] d e = absurd (omega (arith, e))
  split_last true (x ∷ []) d e = (x, [], refl)
  split_last true (x ∷ y ∷ xs) d e = let is = split_last true (y ∷ xs) d (omega arith) in (is.0, x ∷ is.1, ap (λ ys. x ∷ ys) is.2)

  pub has_ends : (h k : Bool) (xs : List A) (d : A) → (if h then 1 else 0) + (if k then 1 else 0) ≤ length xs → (l r : A) × (vs : List A) × (xs ≡ around h k l vs r)
  has_ends false k xs d e = let is = split_last k xs d (omega (arith, e)) in (d, is.0, is.1, is.2)
  has_ends true k [] d e = absurd (omega (arith, e))
  has_ends true k (x ∷ xs) d e = let is = split_last k xs d (omega (arith, e)) in (x, is.0, is.1, ap (λ ys. x ∷ ys) is.2)

module _ (nodes : List Node) where
  abbrev terms : List TermId → List Tree
  terms ids = trees_at nodes (numbers ids)

  terms_last : (k : Bool) (vs : List TermId) (r : TermId) → trees_at nodes (numbers (before_last k vs r)) ≡ before_last k (trees_at nodes (numbers vs)) (tree_at nodes r.0)
  terms_last false vs r = refl
  terms_last true [] r = refl
  terms_last true (v ∷ vs) r = ap (λ ts. tree_at nodes v.0 ∷ ts) (terms_last true vs r)

  pub terms_around : (h k : Bool) (l : TermId) (vs : List TermId) (r : TermId) → trees_at nodes (numbers (around h k l vs r)) ≡ around h k (tree_at nodes l.0) (trees_at nodes (numbers vs)) (tree_at nodes r.0)
  terms_around false k l vs r = terms_last k vs r
  terms_around true k l vs r = ap (λ ts. tree_at nodes l.0 ∷ ts) (terms_last k vs r)
