-- The variables of a widened pattern, and its instances.
use Rattle.std.proofs.Common.{◌≡◌, ℕ, List, [], ◌∷◌, ◌++◌, map, Bool, true, false, ◌||◌, if◌then◌else◌, Option, Some, None, inl, inr, refl, sym, ◌∙◌, ap, subst}
use Rattle.mau_terms.specs.Tree.{Tree, variable, numeral, apply, Trees, no_trees, tree}
use Rattle.mau_terms.specs.Subst.{Variable, same_variable, has_variable, add_variables, add_all_variables, variables, Occurs, OccursIn}
use Rattle.mau_terms.specs.Solution.{add_places, add_all_places}
use Rattle.mau_terms.specs.declared.theory.Theory.{Theory}
use Rattle.mau_terms.proofs.Variables.{same-is}
use Rattle.mau_terms.proofs.Ties.{places_names}
use Rattle.mau_match.proofs.Occurring.{occurring_among}
use Rattle.mau_extend.specs.Widened.{widened, around, as_term}

-- ---- a variable that a term lacks

abbrev pub Lacks : Tree → Variable → Type 0
Lacks p x = (y : Variable) → Occurs y p → same_variable x y ≡ false

pub lacks : (p : Tree) (x : Variable) → has_variable (variables p) x ≡ false → Lacks p x
lacks p x e y o = by (same_variable x y) refl
  where
    by : (b : Bool) → same_variable x y ≡ b → b ≡ false
    by false k = refl
    by true k =
        let same : x ≡ y = same-is x y k in
        let has : has_variable (variables p) x ≡ true = subst (λ z. has_variable (variables p) z ≡ true) (sym same) (occurring_among p y o) in
        cc

-- ---- in front of the others

module _ (a : Variable) where
  mutual
    variables_behind : (t : Tree) (xs : List Variable) → ((y : Variable) → Occurs y t → same_variable a y ≡ false) → add_variables (a ∷ xs) t ≡ a ∷ add_variables xs t
    variables_behind (variable i s) xs f =
        subst (λ b. (if (b || has_variable xs (i, s)) then a ∷ xs else a ∷ (xs ++ (i, s) ∷ [])) ≡ a ∷ (if has_variable xs (i, s) then xs else xs ++ (i, s) ∷ [])) (sym (f (i, s) refl)) (by (has_variable xs (i, s)))
      where
        by : (b : Bool) → (if b then a ∷ xs else a ∷ (xs ++ (i, s) ∷ [])) ≡ a ∷ (if b then xs else xs ++ (i, s) ∷ [])
        by true = refl
        by false = refl
    variables_behind (numeral n) xs f = refl
    variables_behind (apply g ts) xs f = all_variables_behind ts xs f

    all_variables_behind : (ts : Trees) (xs : List Variable) → ((y : Variable) → OccursIn y ts → same_variable a y ≡ false) → add_all_variables (a ∷ xs) ts ≡ a ∷ add_all_variables xs ts
    all_variables_behind no_trees xs f = refl
    all_variables_behind (tree t ts) xs f = ap (λ ys. add_all_variables ys ts) (variables_behind t xs (λ y o. f y (inl o))) ∙ all_variables_behind ts (add_variables xs t) (λ y o. f y (inr o))

  module _ (th : ℕ → Theory) (u : Option ℕ) where
    abbrev Named : Type 0
    Named = Variable × Option ℕ

    mutual
      places_behind : (o : Option ℕ) (t : Tree) (xs : List (Variable × Option ℕ)) → ((y : Variable) → Occurs y t → same_variable a y ≡ false) → add_places th o ((a, u) ∷ xs) t ≡ (a, u) ∷ add_places th o xs t
      places_behind o (variable i s) xs f =
          subst (λ b. (if (b || has_variable (map (λ e. e.0) xs) (i, s)) then (a, u) ∷ xs else (a, u) ∷ (xs ++ ((i, s), o) ∷ [])) ≡ (a, u) ∷ (if has_variable (map (λ e. e.0) xs) (i, s) then xs else xs ++ ((i, s), o) ∷ [])) (sym (f (i, s) refl)) (by (has_variable (map (λ e. e.0) xs) (i, s)))
        where
          by : (b : Bool) → (if b then (a, u) ∷ xs else (a, u) ∷ (xs ++ ((i, s), o) ∷ [])) ≡ (a, u) ∷ (if b then xs else xs ++ ((i, s), o) ∷ [])
          by true = refl
          by false = refl
      places_behind o (numeral n) xs f = refl
      places_behind o (apply g ts) xs f = all_places_behind (if (th g).assoc then Some g else None) ts xs f

      all_places_behind : (o : Option ℕ) (ts : Trees) (xs : List (Variable × Option ℕ)) → ((y : Variable) → OccursIn y ts → same_variable a y ≡ false) → add_all_places th o ((a, u) ∷ xs) ts ≡ (a, u) ∷ add_all_places th o xs ts
      all_places_behind o no_trees xs f = refl
      all_places_behind o (tree t ts) xs f = ap (λ ys. add_all_places th o ys ts) (places_behind o t xs (λ y d. f y (inl d))) ∙ all_places_behind o ts (add_places th o xs t) (λ y d. f y (inr d))

-- ---- the variables, and their places

not_there : {A : Type 0} (b : Bool) (x y : A) → b ≡ false → (if b then x else y) ≡ y
not_there true x y e = cc
not_there false x y e = refl

module _ (f : ℕ) (a b : Variable) (p : Tree) (no_first : Lacks p a) (no_last : has_variable (variables p) b ≡ false) (apart : same_variable a b ≡ false) where
  pub variables_widened : (h k : Bool) → variables (widened h k f (as_term a) p (as_term b)) ≡ around h k a (variables p) b
  variables_widened false false = refl
  variables_widened false true = not_there (has_variable (variables p) b) (variables p) (variables p ++ b ∷ []) no_last
  variables_widened true false = variables_behind a p [] no_first
  variables_widened true true =
      ap (λ xs. add_variables xs (as_term b)) (variables_behind a p [] no_first)
      ∙ subst (λ c. (if (c || has_variable (variables p) b) then a ∷ variables p else a ∷ (variables p ++ b ∷ [])) ≡ a ∷ (variables p ++ b ∷ [])) (sym apart)
      (not_there (has_variable (variables p) b) (a ∷ variables p) (a ∷ (variables p ++ b ∷ [])) no_last)

  module _ (th : ℕ → Theory) (assoc : (th f).assoc ≡ true) (g : ℕ) (ps : Trees) (is : p ≡ apply g ps) where
    abbrev Placed : Type 0
    Placed = Variable × Option ℕ

    under : (if (th f).assoc then Some f else None) ≡ Some f
    under = ap (λ c. if c then Some f else None) assoc

    -- above p its own operator alone counts
    own_places : (o : Option ℕ) (xs : List (Variable × Option ℕ)) → add_places th o xs p ≡ add_places th None xs p
    own_places o xs = ap (add_places th o xs) is ∙ ap (add_places th None xs) (sym is)

    abbrev named : List (Variable × Option ℕ) → List Variable
    named xs = map (λ e. e.0) xs

    last_place : (xs : List (Variable × Option ℕ)) → has_variable (map (λ e. e.0) xs) b ≡ false → add_places th (Some f) xs (as_term b) ≡ xs ++ (b, Some f) ∷ []
    last_place xs e = not_there (has_variable (map (λ e. e.0) xs) b) xs (xs ++ (b, Some f) ∷ []) e

    no_last_there : has_variable (map (λ e. e.0) (add_places th None [] p)) b ≡ false
    no_last_there = ap (λ xs. has_variable xs b) (places_names th None [] p) ∙ no_last

    pub places_widened : (h k : Bool) → add_places th None [] (widened h k f (as_term a) p (as_term b)) ≡ around {A = Variable × Option ℕ} h k (a, Some f) (add_places th None [] p) (b, Some f)
    places_widened false false = refl
    places_widened false true =
        ap (λ o. add_places th o (add_places th o [] p) (as_term b)) under
        ∙ ap (λ xs. add_places th (Some f) xs (as_term b)) (own_places (Some f) [])
        ∙ last_place (add_places th None [] p) no_last_there
    places_widened true false =
        ap (λ o. add_places th o ((a, o) ∷ []) p) under
        ∙ own_places (Some f) ((a, Some f) ∷ [])
        ∙ places_behind a th (Some f) None p [] no_first
    places_widened true true =
        ap (λ o. add_places th o (add_places th o ((a, o) ∷ []) p) (as_term b)) under
        ∙ ap (λ xs. add_places th (Some f) xs (as_term b)) (own_places (Some f) ((a, Some f) ∷ []) ∙ places_behind a th (Some f) None p [] no_first)
        ∙ last_place ((a, Some f) ∷ add_places th None [] p)
        (subst (λ c. (c || has_variable (map (λ e. e.0) (add_places th None [] p)) b) ≡ false) (sym apart) no_last_there)
