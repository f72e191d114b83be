use Rattle.std.proofs.Common.{◌≡◌, ℕ, ◌<◌, slice_get, Some}
use Rattle.mau_stratforms.specs.Meanings.{meaning_of, meant}
use Rattle.mau_stratforms.proofs.table.LeafTable.find.Given as goal

abbrev pub invariant-loop-place : goal.invariant-loop-place
invariant-loop-place l = (k : ℕ) → k < l.place → slice_get (meant l.self-inside.leaves.items) k ≡ Some (meaning_of l.leaf) → ⊥
