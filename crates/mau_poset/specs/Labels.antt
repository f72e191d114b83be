-- Labels: for each sort a sort of its kind that is not above it.
use Rattle.std.specs.Prelude.{◌≡◌, ℕ, ◌<◌, ◌≤◌, Bool, true, false, List, length, sum, slice_index, All}
use Rattle.mau_poset.specs.Order.{AreJoined, first_sort, kinds_before}

-- no label is above its own sort
abbrev pub AreLow : List ℕ → Type 0
AreLow labels = (a : ℕ) → a < length labels → slice_index labels a ≤ a

-- pairs join each sort to its label
abbrev pub AreLabels : List (ℕ × ℕ) → List ℕ → Type 0
AreLabels pairs labels = (a : ℕ) → a < length labels → AreJoined pairs a (slice_index labels a)

-- the two ends of each pair have one label
abbrev pub HaveOneLabel : List (ℕ × ℕ) → List ℕ → Type 0
HaveOneLabel pairs labels = All (λ p. slice_index labels p.0 ≡ slice_index labels p.1) pairs

-- The flag says whether some label was lowered. If none was, they are as they were.
abbrev pub Sank : Bool → List ℕ → List ℕ → Type 0
Sank true old new = sum new < sum old
Sank false old new = new ≡ old

-- each sort has the number of its kind, counted from 0 by first sort
abbrev pub AreKindNumbers : List (ℕ × ℕ) → List ℕ → Type 0
AreKindNumbers pairs numbers = (a : ℕ) → a < length numbers → slice_index numbers a ≡ kinds_before pairs (first_sort pairs a)
