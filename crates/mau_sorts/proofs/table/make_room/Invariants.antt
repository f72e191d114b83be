use Rattle.std.proofs.Common.{◌≡◌, ◌≤◌, ℕ, length}
use Rattle.std.specs.Prelude.{None, slice_index_or}
use Rattle.mau_sorts.proofs.table.make_room.Given as goal

abbrev pub invariant-loop-index : goal.invariant-loop-index
invariant-loop-index l = record { room : l._index ≤ length l.entries.items; same : (i : ℕ) → slice_index_or l.entries.items i None ≡ slice_index_or l.initial.entries.items i None }
