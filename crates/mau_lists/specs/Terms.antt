-- Sub-lists and parts of lists of terms that are named by their numbers.
use Rattle.std.specs.Prelude.{◌≡◌, ℕ, List, Option}
use Rattle.std.specs.Option.{option_map}
use Rattle.std.specs.declared.cmp.Ordering.{Ordering}
use Rattle.std.specs.declared.cmp.Ordering.TheVariants.{Less}
use Rattle.mau_terms.specs.Tree.{Tree}
use Rattle.mau_terms.specs.Order.{tree_cmp, sort_trees}
use Rattle.mau_terms.specs.declared.ids.TermId.{TermId}
use Rattle.mau_store.specs.Node.{Node}
use Rattle.mau_store.specs.Trees.{tree_at, trees_at}
use Rattle.mau_lists.specs.Lists.{IsSubList, IsPart, IsNextOrEnd}

-- t comes before u in the order of trees
abbrev pub IsBefore : Tree → Tree → Type 0
IsBefore t u = tree_cmp t u ≡ Less

-- the numbers stand for terms in ascending order
abbrev pub AreSorted : List Node → List ℕ → Type 0
AreSorted nodes ids = sort_trees (trees_at nodes ids) ≡ trees_at nodes ids

-- the order of the terms that ids stand for
abbrev pub by_tree : List Node → TermId → TermId → Ordering
by_tree nodes x y = tree_cmp (tree_at nodes x.0) (tree_at nodes y.0)

-- stands for a missing id, and is never meant
abbrev pub no_term : TermId
no_term = record { 0 = 0 }

-- due stands for the next sub-list of the items' terms behind the terms of last, or is none behind the last one
abbrev pub IsNextSubList : List Node → List ℕ → List ℕ → Option (List ℕ) → Type 0
IsNextSubList nodes items last due =
    IsNextOrEnd IsBefore (λ ts. IsSubList ts (trees_at nodes items)) (trees_at nodes last) (option_map (trees_at nodes) due)

-- the same with contiguous parts
abbrev pub IsNextPart : List Node → List ℕ → List ℕ → Option (List ℕ) → Type 0
IsNextPart nodes items last due =
    IsNextOrEnd IsBefore (λ ts. IsPart ts (trees_at nodes items)) (trees_at nodes last) (option_map (trees_at nodes) due)
