-- Solutions that tie are equal; lists may be built in parts.
use Rattle.std.proofs.Common.{◌≡◌, ℕ, suc, List, [], ◌∷◌, ◌++◌, length, Bool, true, false, Option, Some, None, if◌then◌else◌, refl, sym, ◌∙◌, ap, ap₂, subst, map, append-nil}
use Rattle.std.specs.declared.cmp.Ordering.{Ordering}
use Rattle.std.specs.declared.cmp.Ordering.TheVariants.{Less, Equal, Greater}
use Rattle.std.specs.Ordering.{ordering_then}
use Rattle.std.specs.Cmp.Lexicographic.{slice_cmp}
use Rattle.mau_terms.specs.Tree.{Tree, variable, numeral, apply, Trees, no_trees, tree}
use Rattle.mau_terms.specs.Order.{tree_cmp}
use Rattle.mau_terms.specs.Norm.{pieces, all_pieces, arrange, finish, made, norm}
use Rattle.mau_terms.specs.Lawful.{AreLawful}
use Rattle.mau_terms.specs.Subst.{Variable, has_variable, add_variables, add_all_variables, variables}
use Rattle.mau_terms.specs.Solution.{over_list, list_cmp, add_places, add_all_places, places, value_key, value_keys, solution_key}
use Rattle.mau_terms.specs.Laws.{AreNorms, ListsNest, TiesAreEqual}
use Rattle.mau_terms.specs.declared.theory.Theory.{Theory}
use Rattle.mau_terms.proofs.Orders.{tree_tied, both_equal}
use Rattle.mau_terms.proofs.Pieces.{Each, IsPiece, pieces-finish, Each-arrange, arrange_right}
use Rattle.mau_terms.proofs.Normal.{IsNormal, norm_normal, whole_all_pieces}
use Rattle.mau_terms.proofs.Finite.{over_its_list}

-- ---- building in parts

norms_are_normal : (th : ℕ → Theory) → AreLawful th → (ts : List Tree) → AreNorms th ts → Each (IsNormal th) ts
norms_are_normal th lawful [] p = tt
norms_are_normal th lawful (t ∷ ts) p = (subst (IsNormal th) p.0 (norm_normal th lawful t), norms_are_normal th lawful ts p.1)

pub lists_nest : ListsNest
lists_nest th lawful f a t u us p =
    let q : Each (IsPiece true (th f).id f) (all_pieces true (th f).id f (u ∷ us)) = subst (λ b. Each (IsPiece b (th f).id f) (all_pieces b (th f).id f (u ∷ us))) a (whole_all_pieces th f (u ∷ us) (norms_are_normal th lawful (u ∷ us) p.1)) in
    subst (λ b. made b (th f).comm (th f).id (th f).succ f (t ∷ u ∷ us) ≡ made b (th f).comm (th f).id (th f).succ f (t ∷ made b (th f).comm (th f).id (th f).succ f (u ∷ us) ∷ [])) (sym a)
    (let v = (th f).id in
    let c = (th f).comm in
    let xs = pieces true v f t in
    let ys = all_pieces true v f (u ∷ us) in
    ap (finish true v (th f).succ f)
    (sym (arrange_right c xs ys)
    ∙ ap (λ w. arrange c (xs ++ w)) (sym (pieces-finish v (th f).succ f (arrange c ys) (Each-arrange (IsPiece true v f) c ys q)) ∙ sym (append-nil (pieces true v f (finish true v (th f).succ f (arrange c ys)))))))

-- ---- ties

pub lists_tied : {A : Type 0} (R : A → A → Ordering) → ((x y : A) → R x y ≡ Equal → x ≡ y) → (xs ys : List A) → slice_cmp R xs ys ≡ Equal → xs ≡ ys
lists_tied R h [] [] e = refl
lists_tied R h [] (y ∷ ys) e = cc
lists_tied R h (x ∷ xs) [] e = cc
lists_tied R h (x ∷ xs) (y ∷ ys) e =
    let p = both_equal (R x y) (slice_cmp R xs ys) e in
    ap₂ (λ a b. a ∷ b) (h x y p.0) (lists_tied R h xs ys p.1)

abbrev names : List (Variable × Option ℕ) → List Variable
names xs = map (λ e. e.0) xs

names-end : (xs : List (Variable × Option ℕ)) (x : Variable × Option ℕ) → names (xs ++ x ∷ []) ≡ names xs ++ x.0 ∷ []
names-end [] x = refl
names-end (y ∷ xs) x = ap (λ w. y.0 ∷ w) (names-end xs x)

module _ (th : ℕ → Theory) where
  mutual
    pub places_names : (o : Option ℕ) (xs : List (Variable × Option ℕ)) (t : Tree) → names (add_places th o xs t) ≡ add_variables (names xs) t
    places_names o xs (variable i s) = by (has_variable (names xs) (i, s))
      where
        by : (b : Bool) → names (if b then xs else xs ++ ((i, s), o) ∷ []) ≡ (if b then names xs else names xs ++ (i, s) ∷ [])
        by true = refl
        by false = names-end xs ((i, s), o)
    places_names o xs (numeral n) = refl
    places_names o xs (apply f ts) = all_places_names (if (th f).assoc then Some f else None) xs ts

    all_places_names : (o : Option ℕ) (xs : List (Variable × Option ℕ)) (ts : Trees) → names (add_all_places th o xs ts) ≡ add_all_variables (names xs) ts
    all_places_names o xs no_trees = refl
    all_places_names o xs (tree t ts) = all_places_names o (add_places th o xs t) ts ∙ ap (λ w. add_all_variables w ts) (places_names o xs t)

  as_many : (xs : List (Variable × Option ℕ)) → length (map (λ e. e.1) xs) ≡ length (names xs)
  as_many [] = refl
  as_many (x ∷ xs) = ap suc (as_many xs)

  pub places_length : (p : Tree) → length (places th p) ≡ length (variables p)
  places_length p = as_many (add_places th None [] p) ∙ ap length (places_names None [] p)

  -- an operator that stands at a place is associative
  abbrev pub IsPlace : Option ℕ → Type 0
  IsPlace None = Unit {0}
  IsPlace (Some f) = (th f).assoc ≡ true

  abbrev pub ArePlaces : List (Variable × Option ℕ) → Type 0
  ArePlaces [] = Unit {0}
  ArePlaces (x ∷ xs) = IsPlace x.1 × ArePlaces xs

  ArePlaces-end : (xs : List (Variable × Option ℕ)) (x : Variable × Option ℕ) → ArePlaces xs → IsPlace x.1 → ArePlaces (xs ++ x ∷ [])
  ArePlaces-end [] x h k = (k, tt)
  ArePlaces-end (y ∷ xs) x h k = (h.0, ArePlaces-end xs x h.1 k)

  place_of : (f : ℕ) → IsPlace (if (th f).assoc then Some f else None)
  place_of f = by (th f).assoc refl
    where
      by : (b : Bool) → (th f).assoc ≡ b → IsPlace (if b then Some f else None)
      by true e = e
      by false e = tt

  mutual
    pub places_hold : (o : Option ℕ) (xs : List (Variable × Option ℕ)) (t : Tree) → IsPlace o → ArePlaces xs → ArePlaces (add_places th o xs t)
    places_hold o xs (variable i s) k h = by (has_variable (names xs) (i, s))
      where
        by : (b : Bool) → ArePlaces (if b then xs else xs ++ ((i, s), o) ∷ [])
        by true = h
        by false = ArePlaces-end xs ((i, s), o) h k
    places_hold o xs (numeral n) k h = h
    places_hold o xs (apply f ts) k h = all_places_hold (if (th f).assoc then Some f else None) xs ts (place_of f) h

    all_places_hold : (o : Option ℕ) (xs : List (Variable × Option ℕ)) (ts : Trees) → IsPlace o → ArePlaces xs → ArePlaces (add_all_places th o xs ts)
    all_places_hold o xs no_trees k h = h
    all_places_hold o xs (tree t ts) k h = all_places_hold o (add_places th o xs t) ts k (places_hold o xs t k h)

  module _ (lawful : AreLawful th) where
    pub key_tied : (o : Option ℕ) (v w : Tree) → IsPlace o → value_key th o v ≡ value_key th o w → norm th v ≡ norm th w
    key_tied None v w k e = cc
    key_tied (Some f) v w k e =
        sym (over_its_list th f (norm th v) k (norm_normal th lawful v)) ∙ ap (over_list (th f) f) e ∙ over_its_list th f (norm th w) k (norm_normal th lawful w)

    keys_tied : (xs : List (Variable × Option ℕ)) (vs ws : List Tree) → ArePlaces xs → length vs ≡ length (map (λ e. e.1) xs) → length ws ≡ length (map (λ e. e.1) xs) → value_keys th (map (λ e. e.1) xs) vs ≡ value_keys th (map (λ e. e.1) xs) ws → map (norm th) vs ≡ map (norm th) ws
    keys_tied [] [] [] h k l e = refl
    keys_tied [] (v ∷ vs) ws h k l e = cc
    keys_tied [] [] (w ∷ ws) h k l e = cc
    keys_tied (x ∷ xs) [] ws h k l e = cc
    keys_tied (x ∷ xs) (v ∷ vs) [] h k l e = cc
    keys_tied (x ∷ xs) (v ∷ vs) (w ∷ ws) h k l e =
        let k' : length vs ≡ length (map (λ e. e.1) xs) = cc in
        let l' : length ws ≡ length (map (λ e. e.1) xs) = cc in
        let e0 : value_key th x.1 v ≡ value_key th x.1 w = cc in
        let e1 : value_keys th (map (λ e. e.1) xs) vs ≡ value_keys th (map (λ e. e.1) xs) ws = cc in
        ap₂ (λ a b. a ∷ b) (key_tied x.1 v w h.0 e0) (keys_tied xs vs ws h.1 k' l' e1)

pub ties_are_equal : TiesAreEqual
ties_are_equal th lawful p x y k l e =
    let q : solution_key th p x ≡ solution_key th p y = lists_tied list_cmp (lists_tied tree_cmp tree_tied) (solution_key th p x) (solution_key th p y) e in
    let e0 : x.0 ≡ y.0 = cc in
    let e1 : value_keys th (places th p) x.1 ≡ value_keys th (places th p) y.1 = cc in
    (e0, keys_tied th lawful (add_places th None [] p) x.1 y.1 (places_hold th None [] p tt tt) (k ∙ sym (places_length th p)) (l ∙ sym (places_length th p)) e1)
