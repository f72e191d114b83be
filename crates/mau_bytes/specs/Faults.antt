-- Counts of faults and of calls, which stand still at the greatest u64.
use Rattle.std.specs.Prelude.{ℕ, ◌+◌, ◌<◌, ◌≤◌, ◌⊎◌, min}

-- a count is greater than before, or it stands at its greatest value
abbrev pub Rose : ℕ → ℕ → Type 0
Rose before after = (before < after) ⊎ (18446744073709551615 ≤ after)

-- the next count, up to the greatest
abbrev pub next_count : ℕ → ℕ
next_count n = min (n + 1) 18446744073709551615
