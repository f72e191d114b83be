-- From which entry each one was entered, and the way to an entry.
use Rattle.std.specs.Prelude.{◌≡◌, ℕ, suc, List, [], ◌∷◌, length, slice_get, slice_index, Some}

pub record TraceOf : Type 0 where
  -- the places of the entries from which those behind the start were entered, in the order of entry
  pub parents : List ℕ
  -- the entries on the way to the solution that was given last, the start first; none where none was given
  pub way : List ℕ

-- from the entry at a place to the one listed last, each entered from the one before
pub data IsWay (seen parents : List ℕ) : ℕ → List ℕ → Type 0 where
  arrived : (j : ℕ) → suc j ≡ length seen → IsWay seen parents j (slice_index seen j ∷ [])
  goes_on : (p j : ℕ) (way : List ℕ) → slice_get parents j ≡ Some p → IsWay seen parents (suc j) way → IsWay seen parents p (slice_index seen p ∷ way)
