-- Ids and their numbers.
use Rattle.std.proofs.Common.{◌≡◌, ℕ, ◌+◌, ◌-◌, ◌<◌, List, length, slice_index_or, drop, Option, sym, ◌∙◌, ap, arith}
use Rattle.std.specs.Cmp.{tied_itself}
use Rattle.std.specs.declared.cmp.Ordering.TheVariants.{Less, Equal}
use Rattle.mau_terms.specs.declared.ids.TermId.{TermId}
use Rattle.mau_terms.proofs.Orders.{tree_total}
use Rattle.mau_store.specs.Node.{Node}
use Rattle.mau_store.specs.Trees.{tree_at}
use Rattle.mau_lists.specs.Terms.{by_tree, no_term}
use Rattle.mau_lists.specs.Following.{first_above, IsAboveLast}
use Rattle.mau_lists.proofs.Steps.{above_later}

-- ids with one number are one
pub same_id : (x y : TermId) → x.0 ≡ y.0 → x ≡ y
same_id x y e = let id : ℕ → TermId = λ n. record { 0 = n } in ap id e

pub tied : (nodes : List Node) (x : TermId) → by_tree nodes x x ≡ Equal
tied nodes x = tied_itself tree_total (tree_at nodes x.0)

-- the first item above two equal items side by side is the same
pub shared_above : (nodes : List Node) (items : List TermId) (i : ℕ) (above : Option TermId) → i < length items → 0 < i → (slice_index_or items (i - 1) no_term).0 ≡ (slice_index_or items i no_term).0 → IsAboveLast (by_tree nodes) no_term items i above → IsAboveLast (by_tree nodes) no_term items (i + 1) above
shared_above nodes items i above h low e last k at =
    let here : k ≡ i = omega (arith, at) in
    let x = slice_index_or items i no_term in
    last (i - 1) (omega (arith, low))
    ∙ ap (λ w. first_above (by_tree nodes) w (drop i items)) (same_id (slice_index_or items (i - 1) no_term) x e)
    ∙ above_later (by_tree nodes) no_term x items i h Equal (tied nodes x) (λ n. let not : Equal ≡ Less = n in absurd (cc))
    ∙ ap (λ j. first_above (by_tree nodes) (slice_index_or items j no_term) (drop (i + 1) items)) (sym here)
