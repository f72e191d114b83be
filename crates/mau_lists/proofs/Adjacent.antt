-- A list is sorted exactly where no element is above the next.
use Rattle.std.proofs.Common.{◌≡◌, ℕ, zero, suc, ◌-◌, ◌<◌, List, [], ◌∷◌, true, false, length, slice_index_or, inl, inr, ◌⊎◌, refl, sym, ◌∙◌, subst, arith}
use Rattle.std.specs.declared.cmp.Ordering.{Ordering}
use Rattle.std.specs.declared.cmp.Ordering.TheVariants.{Less, Equal, Greater}
use Rattle.std.specs.Ordering.{is_gt}
use Rattle.mau_terms.specs.Tree.{Tree}
use Rattle.mau_terms.specs.Order.{tree_cmp}
use Rattle.mau_terms.specs.declared.ids.TermId.{TermId}
use Rattle.mau_terms.proofs.Orders.{tree_tied}
use Rattle.mau_store.specs.Node.{Node}
use Rattle.mau_store.specs.View.{numbers}
use Rattle.mau_store.specs.Trees.{tree_at, trees_at}
use Rattle.mau_lists.specs.Lists.{IsAscending}
use Rattle.mau_lists.specs.Terms.{IsBefore, AreSorted, by_tree, no_term}
use Rattle.mau_lists.proofs.Trees.{less_from, not_greater, sort_ascending, ascending_sorted}

at_most : (t u : Tree) → is_gt (tree_cmp t u) ≡ false → IsBefore t u ⊎ (t ≡ u)
at_most t u h = by (tree_cmp t u) refl h
  where
    by : (o : Ordering) → tree_cmp t u ≡ o → is_gt o ≡ false → IsBefore t u ⊎ (t ≡ u)
    by Less e k = inl e
    by Equal e k = inr (tree_tied t u e)
    by Greater e k = absurd (let w : true ≡ false = k in cc)

module _ (nodes : List Node) where
  -- no element before place i is above the one behind it
  abbrev pub AreAscendingTo : List TermId → ℕ → Type 0
  AreAscendingTo items i = (k : ℕ) → suc k < i → is_gt (by_tree nodes (slice_index_or items k no_term) (slice_index_or items (suc k) no_term)) ≡ false

  ascends : (items : List TermId) → AreAscendingTo items (length items) → IsAscending IsBefore (trees_at nodes (numbers items))
  ascends [] f = tt
  ascends (x ∷ []) f = (tt, tt)
  ascends (x ∷ y ∷ ys) f =
      let here = at_most (tree_at nodes x.0) (tree_at nodes y.0) (f zero (omega arith)) in
      let r = ascends (y ∷ ys) (λ k h. f (suc k) (omega (arith, h))) in
      ((here, less_from (tree_at nodes x.0) (tree_at nodes y.0) (trees_at nodes (numbers ys)) here r.0), r)

  neighbours : (items : List TermId) → IsAscending IsBefore (trees_at nodes (numbers items)) → AreAscendingTo items (length items)
  neighbours [] a k h = absurd (omega arith)
  neighbours (x ∷ []) a k h = absurd (omega arith)
  neighbours (x ∷ y ∷ ys) a zero h = not_greater (tree_at nodes x.0) (tree_at nodes y.0) a.0.0
  neighbours (x ∷ y ∷ ys) a (suc k) h = neighbours (y ∷ ys) a.1 k (omega arith)

  pub sorted : (items : List TermId) → AreAscendingTo items (length items) → AreSorted nodes (numbers items)
  sorted items f = sort_ascending (trees_at nodes (numbers items)) (ascends items f)

  pub not_sorted : (items : List TermId) (i : ℕ) → 0 < i → i < length items → is_gt (by_tree nodes (slice_index_or items (i - 1) no_term) (slice_index_or items i no_term)) ≡ true → AreSorted nodes (numbers items) → ⊥
  not_sorted items zero low h e s = omega (arith, low)
  not_sorted items (suc k) low h e s =
      let one : suc k - 1 ≡ k = omega arith in
      let no : is_gt (by_tree nodes (slice_index_or items k no_term) (slice_index_or items (suc k) no_term)) ≡ false = neighbours items (ascending_sorted (trees_at nodes (numbers items)) s) k h in
      let yes : is_gt (by_tree nodes (slice_index_or items k no_term) (slice_index_or items (suc k) no_term)) ≡ true = subst (λ j. is_gt (by_tree nodes (slice_index_or items j no_term) (slice_index_or items (suc k) no_term)) ≡ true) one e in
      let w : true ≡ false = sym yes ∙ no in
      cc
