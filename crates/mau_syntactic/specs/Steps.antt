-- A pattern as the list of its steps from left to right, and what a step does to the terms that are still to be compared.
use Rattle.std.specs.Prelude.{◌≡◌, ℕ, zero, suc, List, [], ◌∷◌, ◌++◌, length, map, take, drop, slice_get, Some, if◌then◌else◌}
use Rattle.mau_terms.specs.Tree.{Tree, variable, numeral, apply, Trees, no_trees, tree, node}
use Rattle.mau_terms.specs.Subst.{Variable, same_variable, variables, add_variables}
use Rattle.mau_terms.specs.Code.{first_tree}
use Rattle.mau_terms.specs.View.{variable_of}
use Rattle.mau_terms.specs.declared.ids.OpId.{OpId}
use Rattle.mau_terms.specs.declared.ids.VarId.{VarId}
use Rattle.mau_syntactic.specs.declared.step.Step.{Step}
use Rattle.mau_syntactic.specs.declared.step.Step.TheVariants.{Operator, Numeral, Place}

-- ---- the steps of a pattern

-- the first place of x among some variables, or their number where it is not there
abbrev pub place_in : List Variable → Variable → ℕ
place_in [] x = 0
place_in (y ∷ ys) x = if same_variable y x then 0 else suc (place_in ys x)

abbrev pub count_trees : Trees → ℕ
count_trees no_trees = 0
count_trees (tree t ts) = suc (count_trees ts)

-- the steps of a tree behind which the variables xs stand: an operator comes before its arguments
abbrev mutual
  pub steps_of : List Variable → Tree → List Step
  steps_of xs (variable i s) = Place (place_in xs (i, s)) ∷ []
  steps_of xs (numeral n) = Numeral n ∷ []
  steps_of xs (apply f ts) = Operator (record { 0 = f }) (count_trees ts) ∷ all_steps_of xs ts

  pub all_steps_of : List Variable → Trees → List Step
  all_steps_of xs no_trees = []
  all_steps_of xs (tree t ts) = steps_of xs t ++ all_steps_of (add_variables xs t) ts

-- ---- the pattern of some steps

-- the variable at a place
abbrev pub variable_at : List Variable → ℕ → Tree
variable_at [] k = numeral 0
variable_at (x ∷ xs) zero = variable x.0 x.1
variable_at (x ∷ xs) (suc k) = variable_at xs k

-- a step before some trees: an operator takes as many of them as it has arguments
abbrev pub put_before : List Variable → Step → List Tree → List Tree
put_before xs (Operator op n) ts = node op.0 (take n ts) ∷ drop n ts
put_before xs (Numeral n) ts = numeral n ∷ ts
put_before xs (Place k) ts = variable_at xs k ∷ ts

-- the trees that some steps are
abbrev pub trees_from : List Variable → List Step → List Tree
trees_from xs [] = []
trees_from xs (step ∷ steps) = put_before xs step (trees_from xs steps)

abbrev pub pattern_from : List VarId → List Step → Tree
pattern_from xs steps = first_tree (trees_from (map variable_of xs) steps)

-- the variables and the steps are those of the pattern
pub record AreStepsOf (p : Tree) (xs : List VarId) (ss : List Step) : Type 0 where
  pub in_order : map variable_of xs ≡ variables p
  pub steps : ss ≡ steps_of [] p

-- ---- what a step does

-- by this step the terms us, which are still to be compared, and the values vs become others
pub data Follows : Step → List Tree → List Tree → List Tree → List Tree → Type 0 where
  -- an operator with its number of arguments is taken off; its arguments are to be compared next
  operator : (op : OpId) (n : ℕ) (ts us vs : List Tree) → length ts ≡ n → Follows (Operator op n) (node op.0 ts ∷ us) vs (ts ++ us) vs
  -- so is the numeral
  numeral_itself : (n : ℕ) (us vs : List Tree) → Follows (Numeral n) (numeral n ∷ us) vs us vs
  -- a variable that comes for the first time has the term for its value
  first_time : (k : ℕ) (u : Tree) (us vs : List Tree) → k ≡ length vs → Follows (Place k) (u ∷ us) vs us (vs ++ u ∷ [])
  -- and later the term is its value
  later : (k : ℕ) (u : Tree) (us vs : List Tree) → slice_get vs k ≡ Some u → Follows (Place k) (u ∷ us) vs us vs

-- t is the operator f over n arguments, and with these before us the list is new
pub record IsOver (f n : ℕ) (t : Tree) (us new : List Tree) : Type 0 where
  pub arguments : List Tree
  pub count : length arguments ≡ n
  pub tree : t ≡ node f arguments
  pub before : new ≡ arguments ++ us
