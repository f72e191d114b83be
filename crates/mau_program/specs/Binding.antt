-- Variables that are bound. What is matched binds its variables: the left side of a statement, the p of p := u, and the u of t => u.
-- All other terms may have bound variables only.
use Rattle.std.specs.Prelude.{ℕ, suc, List, [], ◌∷◌, Bool, true, ◌&&◌, fold}
use Rattle.mau_terms.specs.Tree.{Tree, variable, numeral, apply, Trees, no_trees, tree}
use Rattle.mau_terms.specs.Subst.{Variable, has_variable, add_variables, variables}
use Rattle.mau_terms.specs.View.{tree_of}
use Rattle.mau_program.specs.declared.statements.Fragment.{Fragment}
use Rattle.mau_program.specs.declared.statements.Fragment.TheVariants.{Equal, Match, Sort, Reach}

-- each variable of t is among xs
abbrev mutual
  pub has_only : List Variable → Tree → Bool
  has_only xs (variable i s) = has_variable xs (i, s)
  has_only xs (numeral n) = true
  has_only xs (apply f ts) = have_only xs ts

  pub have_only : List Variable → Trees → Bool
  have_only xs no_trees = true
  have_only xs (tree t ts) = has_only xs t && have_only xs ts

-- ---- fragments

-- the variables that are bound behind a fragment, where xs are before it
abbrev pub bound_behind : List Variable → Fragment → List Variable
bound_behind xs (Equal t u) = xs
bound_behind xs (Match p u) = add_variables xs (tree_of p)
bound_behind xs (Sort t sort) = xs
bound_behind xs (Reach t u) = add_variables xs (tree_of u)

-- it has no other variables than it may have
abbrev pub is_bound : List Variable → Fragment → Bool
is_bound xs (Equal t u) = has_only xs (tree_of t) && has_only xs (tree_of u)
is_bound xs (Match p u) = has_only xs (tree_of u)
is_bound xs (Sort t sort) = has_only xs (tree_of t)
is_bound xs (Reach t u) = has_only xs (tree_of t)

abbrev pub are_bound : List Variable → List Fragment → Bool
are_bound xs [] = true
are_bound xs (f ∷ fs) = is_bound xs f && are_bound (bound_behind xs f) fs

-- ---- statements

-- the condition, and what stands behind it
abbrev pub binds : Tree → List Fragment → Tree → Bool
binds left cond right = are_bound (variables left) cond && has_only (fold bound_behind (variables left) cond) right

-- ---- the variables that a statement lists: each is its place, counted from 0, with its sort

abbrev pub listed_from : ℕ → List (List ℕ × ℕ) → List Variable
listed_from i [] = []
listed_from i (p ∷ pairs) = (i, p.1) ∷ listed_from (suc i) pairs

abbrev pub listed : List (List ℕ × ℕ) → List Variable
listed pairs = listed_from 0 pairs
