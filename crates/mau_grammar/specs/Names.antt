-- Names that stand in a list once.
use Rattle.std.specs.Prelude.{ℕ, List, AllPairs, ◌≢◌}

abbrev pub AreDistinct : List (List ℕ) → Type 0
AreDistinct names = AllPairs (λ a b. a ≢ b) names
