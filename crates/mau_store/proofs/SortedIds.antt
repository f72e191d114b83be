-- Ids that a sort of std puts into the order of their terms: such a sort is given `Store::compare` for its order.
use Rattle.std.proofs.Common.{◌≡◌, ◌∙◌, ℕ, zero, suc, ◌+◌, ◌<◌, Bool, List, [], ◌∷◌, map, length, slice_index_or, refl, ap, ap₂, sym, arith}
use Rattle.std.specs.Ordering.{is_lt}
use Rattle.std.specs.Cmp.{IsStrictWeakOrder}
use Rattle.std.specs.List.Sorted.{IsPermutation, IsSorted, IsSortedBy}
use Rattle.std.proofs.lemmas.List.{length-map}
use Rattle.std.proofs.lemmas.List.MinMax.{ranks_by}
use Rattle.std.proofs.lemmas.List.Sorted.{IsPermutation-map}
use Rattle.mau_terms.specs.Tree.{Tree}
use Rattle.mau_terms.specs.Order.{tree_cmp, sort_trees}
use Rattle.mau_terms.specs.declared.ids.TermId.{TermId}
use Rattle.mau_terms.proofs.Orders.{tree_total}
use Rattle.mau_terms.proofs.Sorted.{sorted_is_sort}
use Rattle.mau_store.specs.Node.{Node}
use Rattle.mau_store.specs.View.{numbers}
use Rattle.mau_store.specs.Trees.{tree_at, trees_at}

-- the test by which a sort goes: the first term comes before the second
abbrev pub comes_before : List Node → TermId → TermId → Bool
comes_before nodes x y = is_lt (tree_cmp (tree_at nodes x.0) (tree_at nodes y.0))

pub comes_before_is_order : (nodes : List Node) → IsStrictWeakOrder (comes_before nodes)
comes_before_is_order nodes = ranks_by tree_total (λ id. tree_at nodes id.0)

map-numbers : (g : ℕ → Tree) (ids : List TermId) → map g (numbers ids) ≡ map (λ id. g id.0) ids
map-numbers g [] = refl
map-numbers g (id ∷ ids) = ap (λ ts. g id.0 ∷ ts) (map-numbers g ids)

module _ (key : TermId → Tree) where
  key_at : (ids : List TermId) (k : ℕ) (t : Tree) (d : TermId) → k < length ids → slice_index_or (map key ids) k t ≡ key (slice_index_or ids k d)
  key_at [] k t d h = absurd (omega arith)
  key_at (id ∷ ids) zero t d h = refl
  key_at (id ∷ ids) (suc k) t d h = key_at ids k t d (omega arith)

  IsSorted-keys : (ids : List TermId) → IsSortedBy (λ x y. is_lt (tree_cmp (key x) (key y))) ids → IsSorted tree_cmp (map key ids)
  IsSorted-keys ids sorted k t low high =
      let long : length (map key ids) ≡ length ids = length-map ids key in
      let d : TermId = record { 0 = 0 } in
      ap₂ (λ x y. is_lt (tree_cmp x y)) (key_at ids (k + 1) t d (omega (arith, long))) (key_at ids k t d (omega (arith, long)))
      ∙ sorted k d low (omega (arith, long))

-- what a sort ensures of the ids, said of their trees
pub trees_at-sorted : (nodes : List Node) (old new : List TermId) → IsPermutation old new → IsSortedBy (comes_before nodes) new → trees_at nodes (numbers new) ≡ sort_trees (trees_at nodes (numbers old))
trees_at-sorted nodes old new permuted sorted =
    let key : TermId → Tree = λ id. tree_at nodes id.0 in
    map-numbers (tree_at nodes) new
    ∙ sorted_is_sort (map key old) (map key new) (IsPermutation-map key old new permuted) (IsSorted-keys key new sorted)
    ∙ ap sort_trees (sym (map-numbers (tree_at nodes) old))
