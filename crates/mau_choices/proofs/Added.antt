-- The variables of a binding that is extended by the values of a pattern's variables: those that it had, and then those of the pattern.
use Rattle.std.proofs.Common.{◌≡◌, suc, List, [], ◌∷◌, ◌++◌, length, Bool, true, false, ◌||◌, if◌then◌else◌, refl, sym, ap, ◌∙◌, subst}
use Rattle.mau_terms.specs.Tree.{Tree, variable, numeral, apply, Trees, no_trees, tree}
use Rattle.mau_terms.specs.Subst.{Variable, same_variable, has_variable, add_variables, add_all_variables, variables}
use Rattle.mau_terms.proofs.Variables.{same-is}
use Rattle.mau_evaluation.specs.Evaluation.{Binding, binds, extend}
use Rattle.mau_choices.proofs.Agreeing.{bound_variables}

-- xs, and then those of the others that are not among them, one after another
abbrev pub add_each : List Variable → List Variable → List Variable
add_each xs [] = xs
add_each xs (y ∷ ys) = add_each (if has_variable xs y then xs else xs ++ y ∷ []) ys

-- ---- what is there stays there

has_front : (xs : List Variable) (y x : Variable) → has_variable xs x ≡ true → has_variable (xs ++ y ∷ []) x ≡ true
has_front [] y x h = cc
has_front (z ∷ xs) y x h = by (same_variable z x) (has_front xs y x) h
  where
    by : (w : Bool) → (has_variable xs x ≡ true → has_variable (xs ++ y ∷ []) x ≡ true) → (w || has_variable xs x) ≡ true → (w || has_variable (xs ++ y ∷ []) x) ≡ true
    by true rest k = refl
    by false rest k = rest k

has_last : (xs : List Variable) (y x : Variable) → same_variable y x ≡ true → has_variable (xs ++ y ∷ []) x ≡ true
has_last [] y x s = ap (λ w. w || false) s
has_last (z ∷ xs) y x s = by (same_variable z x) (has_last xs y x s)
  where
    by : (w : Bool) → has_variable (xs ++ y ∷ []) x ≡ true → (w || has_variable (xs ++ y ∷ []) x) ≡ true
    by true rest = refl
    by false rest = rest

stays_in : (ys xs : List Variable) (x : Variable) → has_variable xs x ≡ true → has_variable (add_each xs ys) x ≡ true
stays_in [] xs x h = h
stays_in (y ∷ ys) xs x h = by (has_variable xs y) (λ zs. stays_in ys zs x)
  where
    by : (w : Bool) → ((zs : List Variable) → has_variable zs x ≡ true → has_variable (add_each zs ys) x ≡ true) → has_variable (add_each (if w then xs else xs ++ y ∷ []) ys) x ≡ true
    by true rest = rest xs h
    by false rest = rest (xs ++ y ∷ []) (has_front xs y x h)

comes_in : (ys xs : List Variable) (x : Variable) → has_variable ys x ≡ true → has_variable (add_each xs ys) x ≡ true
comes_in [] xs x h = cc
comes_in (y ∷ ys) xs x h = first (same_variable y x) refl (λ zs. comes_in ys zs x) h
  where
    here : same_variable y x ≡ true → (w : Bool) → has_variable xs y ≡ w → has_variable (if w then xs else xs ++ y ∷ []) x ≡ true
    here s true k = has_same xs k
      where
        has_same : (zs : List Variable) → has_variable zs y ≡ true → has_variable zs x ≡ true
        has_same zs q = subst (λ z. has_variable zs z ≡ true) (same-is y x s) q
    here s false k = has_last xs y x s

    first : (w : Bool) → same_variable y x ≡ w → ((zs : List Variable) → has_variable ys x ≡ true → has_variable (add_each zs ys) x ≡ true) → (w || has_variable ys x) ≡ true → has_variable (add_each (if has_variable xs y then xs else xs ++ y ∷ []) ys) x ≡ true
    first true s rest k = stays_in ys (if has_variable xs y then xs else xs ++ y ∷ []) x (here s (has_variable xs y) refl)
    first false s rest k = rest (if has_variable xs y then xs else xs ++ y ∷ []) k

-- ---- one after another

each_more : (ys xs : List Variable) (y : Variable) → add_each xs (ys ++ y ∷ []) ≡ (if has_variable (add_each xs ys) y then add_each xs ys else add_each xs ys ++ y ∷ [])
each_more [] xs y = refl
each_more (z ∷ ys) xs y = each_more ys (if has_variable xs z then xs else xs ++ z ∷ []) y

mutual
  each_of : (p : Tree) (xs ys : List Variable) → add_each xs (add_variables ys p) ≡ add_variables (add_each xs ys) p
  each_of (variable i s) xs ys = by (has_variable ys (i, s)) refl
    where
      by : (w : Bool) → has_variable ys (i, s) ≡ w → add_each xs (if w then ys else ys ++ (i, s) ∷ []) ≡ (if has_variable (add_each xs ys) (i, s) then add_each xs ys else add_each xs ys ++ (i, s) ∷ [])
      by true k = sym (ap (λ w. if w then add_each xs ys else add_each xs ys ++ (i, s) ∷ []) (comes_in ys xs (i, s) k))
      by false k = each_more ys xs (i, s)
  each_of (numeral n) xs ys = refl
  each_of (apply f ts) xs ys = each_of_all ts xs ys

  each_of_all : (ts : Trees) (xs ys : List Variable) → add_each xs (add_all_variables ys ts) ≡ add_all_variables (add_each xs ys) ts
  each_of_all no_trees xs ys = refl
  each_of_all (tree t ts) xs ys = each_of_all ts xs (add_variables ys t) ∙ ap (λ zs. add_all_variables zs ts) (each_of t xs ys)

-- ---- bindings

bound_has : (σ : Binding) (x : Variable) → binds σ x ≡ has_variable (bound_variables σ) x
bound_has [] x = refl
bound_has (e ∷ σ) x = ap (λ w. same_variable e.0 x || w) (bound_has σ x)

bound_end : (σ : Binding) (x : Variable) (v : Tree) → bound_variables (σ ++ (x, v) ∷ []) ≡ bound_variables σ ++ x ∷ []
bound_end [] x v = refl
bound_end (e ∷ σ) x v = ap (λ xs. e.0 ∷ xs) (bound_end σ x v)

variables_each : (xs : List Variable) (vs : List Tree) (σ : Binding) → length vs ≡ length xs → bound_variables (extend σ xs vs) ≡ add_each (bound_variables σ) xs
variables_each [] vs σ n = refl
variables_each (x ∷ xs) [] σ n = cc
variables_each (x ∷ xs) (v ∷ vs) σ n =
    variables_each xs vs (if binds σ x then σ else σ ++ (x, v) ∷ []) (shorter n)
    ∙ ap (λ ys. add_each ys xs) (one (binds σ x) ∙ ap (λ w. if w then bound_variables σ else bound_variables σ ++ x ∷ []) (bound_has σ x))
  where
    shorter : suc (length vs) ≡ suc (length xs) → length vs ≡ length xs
    shorter e = cc

    one : (w : Bool) → bound_variables (if w then σ else σ ++ (x, v) ∷ []) ≡ (if w then bound_variables σ else bound_variables σ ++ x ∷ [])
    one true = refl
    one false = bound_end σ x v

-- by the values of a pattern's variables
pub variables_extended : (p : Tree) (vs : List Tree) (σ : Binding) → length vs ≡ length (variables p) → bound_variables (extend σ (variables p) vs) ≡ add_variables (bound_variables σ) p
variables_extended p vs σ n = variables_each (variables p) vs σ n ∙ each_of p (bound_variables σ) []
