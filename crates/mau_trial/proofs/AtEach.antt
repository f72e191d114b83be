-- What holds at each place, and of the values of a pattern's variables.
use Rattle.std.proofs.Common.{◌≡◌, ◌<◌, ℕ, zero, suc, List, [], ◌∷◌, Bool, true, false, ◌||◌, if◌then◌else◌, All, map, length, take, get_or, refl, sym, ap, subst, arith}
use Rattle.std.proofs.lemmas.List.Elements.{All-nil, All-cons}
use Rattle.mau_terms.specs.Tree.{Tree}
use Rattle.mau_terms.specs.Subst.{Variable, same_variable, value_at, has_variable, variables, Occurs}
use Rattle.mau_terms.specs.View.{variable_of}
use Rattle.mau_terms.specs.declared.ids.TermId.{TermId}
use Rattle.mau_terms.proofs.Variables.{EachVar, same-is, variables_occur, values_of_variables}
use Rattle.mau_store.specs.Node.{Node}
use Rattle.mau_store.specs.Trees.{tree_at, trees_at}
use Rattle.mau_store.specs.View.{numbers}
use Rattle.mau_listing.specs.declared.places.Place.{Place}
use Rattle.mau_listing.specs.Places.{variables_in}
use Rattle.mau_trial.specs.Tried.{HoldsAtEach}

-- ---- one place after another

module _ {A B : Type 0} (R : A → B → Type 0) where
  pub each_more : (xs : List A) (ys : List B) (i : ℕ) (d : A) (e : B) → i < length xs → i < length ys → HoldsAtEach R (take i xs) (take i ys) → R (get_or xs i d) (get_or ys i e)
      → HoldsAtEach R (take (suc i) xs) (take (suc i) ys)
  each_more [] ys i d e h k all r = absurd (omega arith)
  each_more (x ∷ xs) [] i d e h k all r = absurd (omega arith)
  each_more (x ∷ xs) (y ∷ ys) zero d e h k all r = (r, tt)
  each_more (x ∷ xs) (y ∷ ys) (suc i) d e h k all r = (all.0, each_more xs ys i d e (omega arith) (omega arith) all.1 r)

  pub each_at : (xs : List A) (ys : List B) (i : ℕ) (d : A) (e : B) → i < length xs → HoldsAtEach R xs ys → R (get_or xs i d) (get_or ys i e)
  each_at [] ys i d e h all = absurd (omega arith)
  each_at (x ∷ xs) [] i d e h all = absurd all
  each_at (x ∷ xs) (y ∷ ys) zero d e h all = all.0
  each_at (x ∷ xs) (y ∷ ys) (suc i) d e h all = each_at xs ys i d e (omega arith) all.1

  pub each_long : (xs : List A) (ys : List B) → HoldsAtEach R xs ys → length ys ≡ length xs
  each_long [] [] all = refl
  each_long [] (y ∷ ys) all = absurd all
  each_long (x ∷ xs) [] all = absurd all
  each_long (x ∷ xs) (y ∷ ys) all = ap suc (each_long xs ys all.1)

  pub each_then : (S : A → B → Type 0) → ((x : A) (y : B) → R x y → S x y) → (xs : List A) (ys : List B) → HoldsAtEach R xs ys → HoldsAtEach S xs ys
  each_then S h [] [] all = tt
  each_then S h [] (y ∷ ys) all = absurd all
  each_then S h (x ∷ xs) [] all = absurd all
  each_then S h (x ∷ xs) (y ∷ ys) all = (h x y all.0, each_then S h xs ys all.1)

  pub each_both : (S : A → B → Type 0) (xs : List A) (ys : List B) → HoldsAtEach R xs ys → HoldsAtEach S xs ys → HoldsAtEach (λ x y. R x y × S x y) xs ys
  each_both S [] [] all also = tt
  each_both S [] (y ∷ ys) all also = absurd all
  each_both S (x ∷ xs) [] all also = absurd all
  each_both S (x ∷ xs) (y ∷ ys) all also = ((all.0, also.0), each_both S xs ys all.1 also.1)

-- ---- places and numbers, as variables and terms

module _ (nodes : List Node) (Q : Variable → Tree → Type 0) where
  pub each_trees : (ps : List Place) (vs : List TermId) → HoldsAtEach (λ p v. Q (variable_of p.variable) (tree_at nodes v.0)) ps vs → HoldsAtEach Q (map variable_of (variables_in ps)) (trees_at nodes (numbers vs))
  each_trees [] [] all = tt
  each_trees [] (v ∷ vs) all = absurd all
  each_trees (p ∷ ps) [] all = absurd all
  each_trees (p ∷ ps) (v ∷ vs) all = (all.0, each_trees ps vs all.1)

  pub each_numbers : (ps : List Place) (vs : List TermId) → HoldsAtEach Q (map variable_of (variables_in ps)) (trees_at nodes (numbers vs)) → HoldsAtEach (λ p v. Q (variable_of p.variable) (tree_at nodes v.0)) ps vs
  each_numbers [] [] all = tt
  each_numbers [] (v ∷ vs) all = absurd all
  each_numbers (p ∷ ps) [] all = absurd all
  each_numbers (p ∷ ps) (v ∷ vs) all = (all.0, each_numbers ps vs all.1)

module _ (Q : Variable → Tree → Type 0) (F : Tree → Tree) where
  pub each_mapped : (xs : List Variable) (ws : List Tree) → HoldsAtEach (λ x w. Q x (F w)) xs ws → HoldsAtEach Q xs (map F ws)
  each_mapped [] [] all = tt
  each_mapped [] (w ∷ ws) all = absurd all
  each_mapped (x ∷ xs) [] all = absurd all
  each_mapped (x ∷ xs) (w ∷ ws) all = (all.0, each_mapped xs ws all.1)

  pub each_unmapped : (xs : List Variable) (ws : List Tree) → HoldsAtEach Q xs (map F ws) → HoldsAtEach (λ x w. Q x (F w)) xs ws
  each_unmapped [] [] all = tt
  each_unmapped [] (w ∷ ws) all = absurd all
  each_unmapped (x ∷ xs) [] all = absurd all
  each_unmapped (x ∷ xs) (w ∷ ws) all = (all.0, each_unmapped xs ws all.1)

-- ---- the values of variables

or_right : (a b : Bool) → a ≡ false → (a || b) ≡ true → b ≡ true
or_right true b e h = cc
or_right false b e h = h

pub value_holds : (Q : Variable → Tree → Type 0) (xs : List Variable) (ws : List Tree) → HoldsAtEach Q xs ws → (x : Variable) → has_variable xs x ≡ true → Q x (value_at xs ws x)
value_holds Q [] ws all x h = absurd (cc)
value_holds Q (y ∷ ys) [] all x h = absurd all
value_holds Q (y ∷ ys) (w ∷ ws) all x h = by (value_holds Q ys ws all.1 x) (same_variable y x) refl
  where
    by : (has_variable ys x ≡ true → Q x (value_at ys ws x)) → (b : Bool) → same_variable y x ≡ b → Q x (if b then w else value_at ys ws x)
    by later true e = subst (λ z. Q z w) (same-is y x e) all.0
    by later false e = later (or_right (same_variable y x) (has_variable ys x) e h)

pub holds_each : (Q : Variable → Tree → Type 0) (p : Tree) (ws : List Tree) → length ws ≡ length (variables p) → ((x : Variable) → Occurs x p → Q x (value_at (variables p) ws x)) → HoldsAtEach Q (variables p) ws
holds_each Q p ws long h = go (variables p) (variables_occur p) ws (values_of_variables p ws long)
  where
    go : (xs : List Variable) → EachVar (λ x. Occurs x p) xs → (us : List Tree) → map (value_at (variables p) ws) xs ≡ us → HoldsAtEach Q xs us
    go [] o [] e = tt
    go [] o (u ∷ us) e = absurd (cc)
    go (x ∷ xs) o [] e = absurd (cc)
    go (x ∷ xs) o (u ∷ us) e =
        let head : value_at (variables p) ws x ≡ u = cc in
        let rest : map (value_at (variables p) ws) xs ≡ us = cc in
        (subst (Q x) head (h x o.0), go xs o.1 us rest)

-- the sort of each place of a bare pattern is there
pub places_sorted : (P : ℕ → Type 0) (p : Tree) → ((x : Variable) → Occurs x p → P x.1) → (ps : List Place) → map variable_of (variables_in ps) ≡ variables p → All (λ q. P q.variable.sort) ps
places_sorted P p h ps e = go (variables p) (variables_occur p) ps e
  where
    go : (xs : List Variable) → EachVar (λ x. Occurs x p) xs → (qs : List Place) → map variable_of (variables_in qs) ≡ xs → All (λ q. P q.variable.sort) qs
    go [] o [] k = All-nil (λ q. P q.variable.sort)
    go [] o (q ∷ qs) k = absurd (cc)
    go (x ∷ xs) o [] k = absurd (cc)
    go (x ∷ xs) o (q ∷ qs) k =
        let head : variable_of q.variable ≡ x = cc in
        let rest : map variable_of (variables_in qs) ≡ xs = cc in
        All-cons (λ r. P r.variable.sort) q qs (subst (λ y. P y.1) (sym head) (h x o.0)) (go xs o.1 qs rest)
