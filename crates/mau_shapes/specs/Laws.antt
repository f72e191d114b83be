-- The laws of texts of strategies.
use Rattle.std.specs.Prelude.{◌≡◌, ◌⊎◌, ℕ, ◌<◌, length}
use Rattle.mau_shapes.specs.Words.{Words}
use Rattle.mau_shapes.specs.Shape.{Shape, IsTextOf}
use Rattle.mau_shapes.specs.Front.{IsUnexpected}

-- no text has two shapes
abbrev pub TextsAreRead : Type 0
TextsAreRead = (ws : Words) (s t : Shape) → IsTextOf ws s → IsTextOf ws t → s ≡ t

-- some words are the text of a shape, or one of them is the first at fault
abbrev pub EveryTextHasAnAnswer : Type 0
EveryTextHasAnAnswer = (ws : Words) → 0 < length ws → ((s : Shape) × IsTextOf ws s) ⊎ ((i : ℕ) × IsUnexpected ws i)

-- not both, and not two of them
abbrev pub FaultsAreOne : Type 0
FaultsAreOne = (ws : Words) (i : ℕ) → IsUnexpected ws i → ((s : Shape) → IsTextOf ws s → ⊥) × ((j : ℕ) → IsUnexpected ws j → i ≡ j)
