-- The variables of a statement whose variables are bound in order: those of the left side, and then those that are matched.
use Rattle.std.proofs.Common.{◌≡◌, List, [], ◌∷◌, ◌++◌, Bool, true, false, ◌&&◌, ◌||◌, if◌then◌else◌, refl, ap, ◌∙◌}
use Rattle.std.specs.Prelude.{fold}
use Rattle.std.proofs.lemmas.Bool.{and_parts}
use Rattle.mau_terms.specs.Tree.{Tree, variable, numeral, apply, Trees, no_trees, tree}
use Rattle.mau_terms.specs.Subst.{Variable, same_variable, has_variable, add_variables, add_all_variables, variables}
use Rattle.mau_terms.specs.View.{tree_of}
use Rattle.mau_program.specs.declared.statements.Fragment.{Fragment}
use Rattle.mau_program.specs.declared.statements.Fragment.TheVariants.{Equal, Match, Sort, Reach}
use Rattle.mau_program.specs.Binding.{has_only, have_only, bound_behind, is_bound, are_bound, binds}
use Rattle.mau_api.specs.Variables.{fragment_variables, condition_variables, statement_variables}

-- a term of which all variables are there adds none
mutual
  pub adds_none : (xs : List Variable) (t : Tree) → has_only xs t ≡ true → add_variables xs t ≡ xs
  adds_none xs (variable i s) h = ap (λ b. if b then xs else xs ++ (i, s) ∷ []) h
  adds_none xs (numeral n) h = refl
  adds_none xs (apply f ts) h = all_add_none xs ts h

  all_add_none : (xs : List Variable) (ts : Trees) → have_only xs ts ≡ true → add_all_variables xs ts ≡ xs
  all_add_none xs no_trees h = refl
  all_add_none xs (tree t ts) h =
      let p = and_parts (has_only xs t) (have_only xs ts) h in
      ap (λ ys. add_all_variables ys ts) (adds_none xs t p.0) ∙ all_add_none xs ts p.1

-- ---- what is there stays there

-- each of the first variables is among the others
abbrev AreAmong : List Variable → List Variable → Type 0
AreAmong xs ys = (x : Variable) → has_variable xs x ≡ true → has_variable ys x ≡ true

at_end : (xs ys : List Variable) → AreAmong xs (xs ++ ys)
at_end [] ys x h = cc
at_end (z ∷ xs) ys x h = by (at_end xs ys x) (same_variable z x) h
  where
    by : (has_variable xs x ≡ true → has_variable (xs ++ ys) x ≡ true) → (b : Bool) → (b || has_variable xs x) ≡ true → (b || has_variable (xs ++ ys) x) ≡ true
    by rest true k = refl
    by rest false k = rest k

mutual
  more_added : (xs : List Variable) (t : Tree) → AreAmong xs (add_variables xs t)
  more_added xs (variable i s) x h = by (has_variable xs (i, s))
    where
      by : (b : Bool) → has_variable (if b then xs else xs ++ (i, s) ∷ []) x ≡ true
      by true = h
      by false = at_end xs ((i, s) ∷ []) x h
  more_added xs (numeral n) x h = h
  more_added xs (apply f ts) x h = all_more_added xs ts x h

  all_more_added : (xs : List Variable) (ts : Trees) → AreAmong xs (add_all_variables xs ts)
  all_more_added xs no_trees x h = h
  all_more_added xs (tree t ts) x h = all_more_added (add_variables xs t) ts x (more_added xs t x h)

both_true : (a b : Bool) → a ≡ true → b ≡ true → (a && b) ≡ true
both_true a b e k = ap (λ c. c && b) e ∙ k

mutual
  only_among : (xs ys : List Variable) → AreAmong xs ys → (t : Tree) → has_only xs t ≡ true → has_only ys t ≡ true
  only_among xs ys a (variable i s) h = a (i, s) h
  only_among xs ys a (numeral n) h = refl
  only_among xs ys a (apply f ts) h = all_only_among xs ys a ts h

  all_only_among : (xs ys : List Variable) → AreAmong xs ys → (ts : Trees) → have_only xs ts ≡ true → have_only ys ts ≡ true
  all_only_among xs ys a no_trees h = refl
  all_only_among xs ys a (tree t ts) h =
      let p = and_parts (has_only xs t) (have_only xs ts) h in
      both_true (has_only ys t) (have_only ys ts) (only_among xs ys a t p.0) (all_only_among xs ys a ts p.1)

-- ---- fragments

-- a fragment adds just what it binds
one_bound : (xs : List Variable) (f : Fragment) → is_bound xs f ≡ true → fragment_variables xs f ≡ bound_behind xs f
one_bound xs (Equal t u) h =
    let p = and_parts (has_only xs (tree_of t)) (has_only xs (tree_of u)) h in
    ap (λ ys. add_variables ys (tree_of u)) (adds_none xs (tree_of t) p.0) ∙ adds_none xs (tree_of u) p.1
one_bound xs (Match q u) h = adds_none (add_variables xs (tree_of q)) (tree_of u) (only_among xs (add_variables xs (tree_of q)) (more_added xs (tree_of q)) (tree_of u) h)
one_bound xs (Sort t r) h = adds_none xs (tree_of t) h
one_bound xs (Reach t u) h = ap (λ ys. add_variables ys (tree_of u)) (adds_none xs (tree_of t) h)

all_bound : (xs : List Variable) (fs : List Fragment) → are_bound xs fs ≡ true → condition_variables xs fs ≡ fold bound_behind xs fs
all_bound xs [] h = refl
all_bound xs (f ∷ fs) h =
    let p = and_parts (is_bound xs f) (are_bound (bound_behind xs f) fs) h in
    ap (λ ys. condition_variables ys fs) (one_bound xs f p.0) ∙ all_bound (bound_behind xs f) fs p.1

-- the variables of a statement are those that are bound behind its condition
pub bound_are_all : (left : Tree) (cond : List Fragment) (right : Tree) → binds left cond right ≡ true → statement_variables left cond right ≡ fold bound_behind (variables left) cond
bound_are_all left cond right h =
    let p = and_parts (are_bound (variables left) cond) (has_only (fold bound_behind (variables left) cond) right) h in
    ap (λ ys. add_variables ys right) (all_bound (variables left) cond p.0) ∙ adds_none (fold bound_behind (variables left) cond) right p.1
