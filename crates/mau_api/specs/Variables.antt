-- The variables of a statement, in the order in which its values are told.
use Rattle.std.specs.Prelude.{ℕ, zero, suc, List, [], ◌∷◌, Option, None, slice_get}
use Rattle.mau_terms.specs.Tree.{Tree}
use Rattle.mau_terms.specs.Subst.{Variable, variables, add_variables}
use Rattle.mau_terms.specs.View.{tree_of}
use Rattle.mau_program.specs.declared.statements.Fragment.{Fragment}
use Rattle.mau_program.specs.declared.statements.Fragment.TheVariants.{Equal, Match, Sort, Reach}

-- the one with the number n, counted from 1
abbrev pub numbered : {A : Type 0} → List A → ℕ → Option A
numbered xs zero = None
numbered xs (suc n) = slice_get xs n

-- xs and the variables of a fragment that are not among them
abbrev pub fragment_variables : List Variable → Fragment → List Variable
fragment_variables xs (Equal t u) = add_variables (add_variables xs (tree_of t)) (tree_of u)
fragment_variables xs (Match p u) = add_variables (add_variables xs (tree_of p)) (tree_of u)
fragment_variables xs (Sort t r) = add_variables xs (tree_of t)
fragment_variables xs (Reach t u) = add_variables (add_variables xs (tree_of t)) (tree_of u)

abbrev pub condition_variables : List Variable → List Fragment → List Variable
condition_variables xs [] = xs
condition_variables xs (c ∷ cs) = condition_variables (fragment_variables xs c) cs

-- by first occurrence in left side, condition and right side
abbrev pub statement_variables : Tree → List Fragment → Tree → List Variable
statement_variables left cond right = add_variables (condition_variables (variables left) cond) right
