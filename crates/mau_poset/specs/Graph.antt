-- Lists of neighbours: for each number below n the numbers that it leads to.
use Rattle.std.specs.Prelude.{ℕ, ◌<◌, List, length, All, slice_index_or, Vec}
use Rattle.mau_poset.specs.Order.{Leads}

-- each neighbour has a list of its own
abbrev pub AreNeighbours : {Z : Type 0} → List (Vec ℕ Z) → Type 0
AreNeighbours lists = All (λ list. All (λ b. b < length lists) list.items) lists

-- each list has only numbers to which a pair leads from its own
abbrev pub AreUppers : {Z : Type 0} → List (ℕ × ℕ) → List (Vec ℕ Z) → Type 0
AreUppers pairs lists = (a : ℕ) (d : Vec ℕ _) → a < length lists → All (Leads pairs a) (slice_index_or lists a d).items
