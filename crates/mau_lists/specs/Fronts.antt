-- Lists that begin with the same terms, and tables of how much of a list each of its own places begins with.
use Rattle.std.specs.Prelude.{◌≡◌, ℕ, ◌-◌, ◌<◌, ◌≤◌, List, length, drop, slice_index, slice_index_or, min, Option, Some, None}
use Rattle.mau_terms.specs.declared.ids.TermId.{TermId}
use Rattle.mau_store.specs.Node.{Node}
use Rattle.mau_store.specs.Trees.{tree_at}
use Rattle.mau_lists.specs.Terms.{no_term}

-- xs and ys have at least k elements each, and the first k of them stand for the same terms
pub record ShareFront (nodes : List Node) (xs ys : List TermId) (k : ℕ) : Type 0 where
  pub first : k ≤ length xs
  pub second : k ≤ length ys
  pub same : (j : ℕ) → j < k → tree_at nodes (slice_index_or xs j no_term).0 ≡ tree_at nodes (slice_index_or ys j no_term).0

-- the table tells, of each place below n but the first one, of how many elements xs has a front that stands there once more
abbrev pub AreFronts : List Node → List TermId → List ℕ → ℕ → Type 0
AreFronts nodes xs fronts n = (d : ℕ) → 0 < d → d < n → ShareFront nodes xs (drop d xs) (slice_index fronts d)

-- the table tells it of the place d, where that one is within the first n elements
abbrev pub KnowsPlace : List Node → List TermId → List ℕ → ℕ → ℕ → Type 0
KnowsPlace nodes xs fronts d n = 0 < d → d < n → (d < length fronts) × ShareFront nodes xs (drop d xs) (slice_index fronts d)

-- a part of items and the one of so many elements from start on begin alike, but for the last element of the shorter one
abbrev pub BeginAlike : List Node → List TermId → ℕ → ℕ → Option (ℕ × ℕ) → Type 0
BeginAlike nodes items start len None = Unit {0}
BeginAlike nodes items start len (Some p) = ShareFront nodes (drop p.0 items) (drop start items) (min len p.1 - 1)
