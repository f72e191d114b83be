-- The first variable of a condition that isn't bound.
use Rattle.std.specs.Prelude.{List, [], ◌∷◌, Option, Some, None, if◌then◌else◌}
use Rattle.mau_terms.specs.Tree.{Tree, variable, numeral, apply, Trees, no_trees, tree}
use Rattle.mau_terms.specs.Subst.{Variable, has_variable}
use Rattle.mau_terms.specs.View.{tree_of}
use Rattle.mau_program.specs.Binding.{bound_behind}
use Rattle.mau_program.specs.declared.statements.Fragment.{Fragment}
use Rattle.mau_program.specs.declared.statements.Fragment.TheVariants.{Equal, Match, Sort, Reach}

-- the first that there is
abbrev pub first_there : Option Variable → Option Variable → Option Variable
first_there (Some x) o = Some x
first_there None o = o

-- the first variable of t, from left to right, that is not among xs
abbrev mutual
  pub first_other : List Variable → Tree → Option Variable
  first_other xs (variable i s) = if has_variable xs (i, s) then None else Some (i, s)
  first_other xs (numeral n) = None
  first_other xs (apply f ts) = first_other_in xs ts

  pub first_other_in : List Variable → Trees → Option Variable
  first_other_in xs no_trees = None
  first_other_in xs (tree t ts) = first_there (first_other xs t) (first_other_in xs ts)

-- the first one of a fragment that isn't bound, where xs are: what it binds itself is no such variable
abbrev pub other_in_fragment : List Variable → Fragment → Option Variable
other_in_fragment xs (Equal t u) = first_there (first_other xs (tree_of t)) (first_other xs (tree_of u))
other_in_fragment xs (Match p u) = first_other xs (tree_of u)
other_in_fragment xs (Sort t sort) = first_other xs (tree_of t)
other_in_fragment xs (Reach t u) = first_other xs (tree_of t)

-- the first one of a condition, fragment by fragment
abbrev pub first_unbound : List Variable → List Fragment → Option Variable
first_unbound xs [] = None
first_unbound xs (f ∷ fs) = first_there (other_in_fragment xs f) (first_unbound (bound_behind xs f) fs)
