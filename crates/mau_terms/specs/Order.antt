-- The order of trees, and lists sorted by it.
use Rattle.std.specs.Prelude.{List, [], ◌∷◌, if◌then◌else◌}
use Rattle.std.specs.declared.cmp.Ordering.{Ordering}
use Rattle.std.specs.declared.cmp.Ordering.TheVariants.{Less, Equal, Greater}
use Rattle.std.specs.Ordering.{nat_cmp, ordering_then, is_gt}
use Rattle.mau_terms.specs.Tree.{Tree, variable, numeral, apply, Trees, no_trees, tree}

-- numerals come first, by value; then variables, by index and then by sort; then operators, by number and then by their lists
-- of arguments
abbrev mutual
  pub tree_cmp : Tree → Tree → Ordering
  tree_cmp (numeral m) (numeral n) = nat_cmp m n
  tree_cmp (numeral m) (variable j r) = Less
  tree_cmp (numeral m) (apply g us) = Less
  tree_cmp (variable i s) (numeral n) = Greater
  tree_cmp (variable i s) (variable j r) = ordering_then (nat_cmp i j) (nat_cmp s r)
  tree_cmp (variable i s) (apply g us) = Less
  tree_cmp (apply f ts) (numeral n) = Greater
  tree_cmp (apply f ts) (variable j r) = Greater
  tree_cmp (apply f ts) (apply g us) = ordering_then (nat_cmp f g) (trees_cmp ts us)

  -- lists compare by the first place where they differ, and a proper prefix comes first
  pub trees_cmp : Trees → Trees → Ordering
  trees_cmp no_trees no_trees = Equal
  trees_cmp no_trees (tree u us) = Less
  trees_cmp (tree t ts) no_trees = Greater
  trees_cmp (tree t ts) (tree u us) = ordering_then (tree_cmp t u) (trees_cmp ts us)

-- an ascending list with t in its place
abbrev pub insert_tree : Tree → List Tree → List Tree
insert_tree t [] = t ∷ []
insert_tree t (u ∷ us) = if is_gt (tree_cmp t u) then u ∷ insert_tree t us else t ∷ u ∷ us

-- the trees of a list, each as often as there, in ascending order
abbrev pub sort_trees : List Tree → List Tree
sort_trees [] = []
sort_trees (t ∷ ts) = insert_tree t (sort_trees ts)
