-- All sub-lists and all parts of a list, written down by plain programs, and how many of them are left behind a list: what falls
-- from one call of a listing to the next.
use Rattle.std.specs.Prelude.{ℕ, suc, List, [], ◌∷◌, ◌++◌, map, count_by, Option, Some, None}
use Rattle.std.specs.Ordering.{is_lt}
use Rattle.mau_terms.specs.Tree.{Tree}
use Rattle.mau_terms.specs.Solution.{list_cmp}
use Rattle.mau_store.specs.Node.{Node}
use Rattle.mau_store.specs.Trees.{trees_at}
use Rattle.mau_lists.specs.Place.{Place}

module _ {A : Type 0} where
  -- each list with x in front
  abbrev pub each_with : A → List (List A) → List (List A)
  each_with x ss = map (λ s. x ∷ s) ss

  -- those without the first element, and those with it
  abbrev pub sub_lists : List A → List (List A)
  sub_lists [] = [] ∷ []
  sub_lists (y ∷ ys) = sub_lists ys ++ each_with y (sub_lists ys)

  abbrev pub fronts : List A → List (List A)
  fronts [] = [] ∷ []
  fronts (y ∷ ys) = [] ∷ each_with y (fronts ys)

  -- the fronts, and the parts of what is left behind the first element
  abbrev pub parts : List A → List (List A)
  parts [] = [] ∷ []
  parts (y ∷ ys) = fronts (y ∷ ys) ++ parts ys

-- how many of these lists come behind ts in the order of lists
abbrev pub count_behind : List Tree → List (List Tree) → ℕ
count_behind ts all = count_by (λ s. is_lt (list_cmp ts s)) all

-- the list that is due, if one is, and those behind it
abbrev pub count_from : List Node → List (List Tree) → Option (List ℕ) → ℕ
count_from nodes all None = 0
count_from nodes all (Some list) = suc (count_behind (trees_at nodes list) all)

-- how often a listing of sub-lists has still to be called
abbrev pub sub_lists_left : List Node → Place → ℕ
sub_lists_left nodes p = count_from nodes (sub_lists (trees_at nodes p.items)) p.due

-- the same of a listing of parts
abbrev pub parts_left : List Node → Place → ℕ
parts_left nodes p = count_from nodes (parts (trees_at nodes p.items)) p.due
