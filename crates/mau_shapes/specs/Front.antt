-- Beginnings of strategies, and the first word at fault.
use Rattle.std.specs.Prelude.{◌≡◌, ◌⊎◌, ℕ, ◌+◌, ◌<◌, ◌++◌, length, take}
use Rattle.mau_shapes.specs.Words.{Words}
use Rattle.mau_shapes.specs.Shape.{Shape, IsTextOf}

-- a strategy may begin so
pub record IsFront (ws : Words) : Type 0 where
  pub shape : Shape
  pub more : Words
  pub reads : IsTextOf (ws ++ more) shape

-- the word i is the first with which no strategy goes on; or the last one, where the text ends too early
pub record IsUnexpected (ws : Words) (i : ℕ) : Type 0 where
  pub there : i < length ws
  pub front : IsFront (take i ws)
  pub fault : (IsFront (take (i + 1) ws) → ⊥) ⊎ ((i + 1 ≡ length ws) × ((s : Shape) → IsTextOf ws s → ⊥))
