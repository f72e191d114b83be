-- A number that is no sort and no kind is in no set.
use Rattle.std.proofs.Common.{ℕ, ◌+◌, ◌<◌, ◌≤◌, subst, arith, inl, inr}
use Rattle.mau_poset.specs.Order.{Hierarchy, IsPoset, kinds, IsAtOrBelow}
use Rattle.mau_poset.proofs.Chains.{Chain-within}
use Rattle.mau_poset.proofs.Orders.{kind_of-in_range}
use Rattle.mau_sorts.specs.SortSets.{SortsOf, IsIn, IsOver}

pub out_of_range : (h : Hierarchy) → IsPoset h → (e : SortsOf) → IsOver h e → (r : ℕ) → h.sorts + kinds h ≤ r → IsIn h e r → ⊥
out_of_range h poset e over r far (inl (m, at, below)) =
    let small : m < h.sorts = let P : ℕ → Type 0 = λ n. n < h.sorts in subst P at.2 (over.minimal at.0 m at.1) in
    by m small below
  where
    by : (m : ℕ) → m < h.sorts → IsAtOrBelow h m r → ⊥
    by m small (inl chain) = let q = Chain-within h.pairs h.sorts poset.within chain small in omega (arith, q, far)
    by m small (inr kind) = let q = kind_of-in_range h m small in omega (arith, q, far, kind)
out_of_range h poset e over r far (inr kind) = let q = over.kind.1 in omega (arith, q, far, kind)
