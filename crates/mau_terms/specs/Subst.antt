-- Variables, substitutions and instances.
use Rattle.std.specs.Prelude.{◌≡◌, ◌⊎◌, ℕ, List, [], ◌∷◌, ◌++◌, Bool, false, ◌==◌, ◌&&◌, ◌||◌, if◌then◌else◌}
use Rattle.mau_terms.specs.Tree.{Tree, variable, numeral, apply, Trees, no_trees, tree}

-- an index, and the number of a sort
abbrev pub Variable : Type 0
Variable = ℕ × ℕ

abbrev pub same_variable : Variable → Variable → Bool
same_variable x y = (x.0 == y.0) && (x.1 == y.1)

-- ---- instances

-- t with the value of g in place of each variable
abbrev mutual
  pub instance : (Variable → Tree) → Tree → Tree
  instance g (variable i s) = g (i, s)
  instance g (numeral n) = numeral n
  instance g (apply f ts) = apply f (instances g ts)

  pub instances : (Variable → Tree) → Trees → Trees
  instances g no_trees = no_trees
  instances g (tree t ts) = tree (instance g t) (instances g ts)

-- the substitution that gives each of some variables the value at its place, and leaves any other variable as it is
abbrev pub value_at : List Variable → List Tree → Variable → Tree
value_at [] vs x = variable x.0 x.1
value_at (y ∷ ys) [] x = variable x.0 x.1
value_at (y ∷ ys) (v ∷ vs) x = if same_variable y x then v else value_at ys vs x

-- ---- the variables of a tree

abbrev pub has_variable : List Variable → Variable → Bool
has_variable [] x = false
has_variable (y ∷ ys) x = same_variable y x || has_variable ys x

-- xs, and then the variables of t that are not among them, by first occurrence
abbrev mutual
  pub add_variables : List Variable → Tree → List Variable
  add_variables xs (variable i s) = if has_variable xs (i, s) then xs else xs ++ (i, s) ∷ []
  add_variables xs (numeral n) = xs
  add_variables xs (apply f ts) = add_all_variables xs ts

  pub add_all_variables : List Variable → Trees → List Variable
  add_all_variables xs no_trees = xs
  add_all_variables xs (tree t ts) = add_all_variables (add_variables xs t) ts

-- each variable of t once, by first occurrence from left to right
abbrev pub variables : Tree → List Variable
variables t = add_variables [] t

-- the instance of p by the values vs of its variables, by first occurrence
abbrev pub with_values : Tree → List Tree → Tree
with_values p vs = instance (value_at (variables p) vs) p

-- x occurs in t
abbrev mutual
  pub Occurs : Variable → Tree → Type 0
  Occurs x (variable i s) = x ≡ (i, s)
  Occurs x (numeral n) = ⊥
  Occurs x (apply f ts) = OccursIn x ts

  pub OccursIn : Variable → Trees → Type 0
  OccursIn x no_trees = ⊥
  OccursIn x (tree t ts) = Occurs x t ⊎ OccursIn x ts
