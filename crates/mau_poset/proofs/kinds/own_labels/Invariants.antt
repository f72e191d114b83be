use Rattle.std.proofs.Common.{◌≡◌, ℕ, ◌<◌, vec_len, slice_index}
use Rattle.mau_poset.proofs.kinds.own_labels.Given as goal

abbrev pub invariant-loop-a : goal.invariant-loop-a
invariant-loop-a l = (vec_len l.labels ≡ l.a) × ((k : ℕ) → k < l.a → slice_index l.labels.items k ≡ k)
