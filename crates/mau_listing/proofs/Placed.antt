-- The variables of a pattern, one after another.
use Rattle.std.proofs.Common.{◌≡◌, ℕ, zero, suc, ◌<◌, List, [], ◌∷◌, ◌++◌, Bool, true, false, ◌||◌, if◌then◌else◌, Option, Some, None, map, length, take, get_or, refl, sym, ap, ap₂, ◌∙◌, arith}
use Rattle.std.proofs.lemmas.List.{map-append}
use Rattle.mau_terms.specs.Tree.{Tree, variable, numeral, apply, Trees, no_trees, tree, trees_of}
use Rattle.mau_terms.specs.Subst.{Variable, same_variable, has_variable, add_variables, add_all_variables}
use Rattle.mau_terms.specs.Solution.{add_places, add_all_places}
use Rattle.mau_terms.specs.View.{tree_of, variable_of}
use Rattle.mau_terms.specs.declared.bare.Bare.{Bare}
use Rattle.mau_terms.specs.declared.ids.OpId.{OpId}
use Rattle.mau_terms.specs.declared.ids.VarId.{VarId}
use Rattle.std.specs.List.{list_any}
use Rattle.mau_terms.specs.declared.theory.Theory.{Theory}
use Rattle.mau_listing.specs.declared.places.Place.{Place}
use Rattle.mau_listing.specs.Places.{operator_number, under_all, variables_in, places_in}

abbrev pub firsts : List (Variable × Option ℕ) → List Variable
firsts xs = map {A = Variable × Option ℕ} (λ e. e.0) xs

module _ (th : ℕ → Theory) where
  mutual
    -- they are the variables by first occurrence
    pub places_variables : (o : Option ℕ) (xs : List (Variable × Option ℕ)) (t : Tree) → firsts (add_places th o xs t) ≡ add_variables (firsts xs) t
    places_variables o xs (variable i s) = by (has_variable (firsts xs) (i, s))
      where
        by : (b : Bool) → firsts (if b then xs else xs ++ ((i, s), o) ∷ []) ≡ (if b then firsts xs else firsts xs ++ (i, s) ∷ [])
        by true = refl
        by false = map-append {A = Variable × Option ℕ} (λ e. e.0) xs (((i, s), o) ∷ [])
    places_variables o xs (numeral n) = refl
    places_variables o xs (apply f ts) = all_places_variables (if (th f).assoc then Some f else None) xs ts

    all_places_variables : (o : Option ℕ) (xs : List (Variable × Option ℕ)) (ts : Trees) → firsts (add_all_places th o xs ts) ≡ add_all_variables (firsts xs) ts
    all_places_variables o xs no_trees = refl
    all_places_variables o xs (tree t ts) = all_places_variables o (add_places th o xs t) ts ∙ ap (λ ys. add_all_variables ys ts) (places_variables o xs t)

  -- those of one more argument
  pub add_all_more : (o : Option ℕ) (xs : List (Variable × Option ℕ)) (bs : List Bare) (i : ℕ) (d : Bare) → i < length bs →
      add_all_places th o xs (trees_of (map tree_of (take (suc i) bs))) ≡ add_places th o (add_all_places th o xs (trees_of (map tree_of (take i bs)))) (tree_of (get_or bs i d))
  add_all_more o xs [] i d h = absurd (omega arith)
  add_all_more o xs (b ∷ bs) zero d h = refl
  add_all_more o xs (b ∷ bs) (suc i) d h = add_all_more o (add_places th o xs (tree_of b)) bs i d (omega arith)

-- the code's places
pub firsts_in : (ps : List Place) → firsts (places_in ps) ≡ map variable_of (variables_in ps)
firsts_in [] = refl
firsts_in (p ∷ ps) = ap (λ vs. variable_of p.variable ∷ vs) (firsts_in ps)

pub seconds_in : (ps : List Place) → map {A = Variable × Option ℕ} (λ e. e.1) (places_in ps) ≡ under_all ps
seconds_in [] = refl
seconds_in (p ∷ ps) = ap₂ (λ o os. o ∷ os) refl (seconds_in ps)

pub any_has : (ps : List Place) (v : VarId) → list_any (λ p. same_variable (variable_of p.variable) (variable_of v)) ps ≡ has_variable (firsts (places_in ps)) (variable_of v)
any_has [] v = refl
any_has (p ∷ ps) v = ap (λ b. same_variable (variable_of p.variable) (variable_of v) || b) (any_has ps v)

-- one more variable, if it is not there
pub added : (th : ℕ → Theory) (o : Option OpId) (ps : List Place) (v : VarId) (b : Bool) → list_any (λ p. same_variable (variable_of p.variable) (variable_of v)) ps ≡ b →
    add_places th (operator_number o) (places_in ps) (variable v.index v.sort) ≡ (if b then places_in ps else places_in ps ++ (variable_of v, operator_number o) ∷ [])
added th o ps v b e = ap (λ c. if c then places_in ps else places_in ps ++ (variable_of v, operator_number o) ∷ []) (sym (any_has ps v) ∙ e)

pub places_push : (ps : List Place) (p : Place) → places_in (ps ++ p ∷ []) ≡ places_in ps ++ (variable_of p.variable, operator_number p.under) ∷ []
places_push ps p = map-append {B = Variable × Option ℕ} (λ q. (variable_of q.variable, operator_number q.under)) ps (p ∷ [])
