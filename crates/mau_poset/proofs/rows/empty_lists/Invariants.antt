use Rattle.std.proofs.Common.{◌≡◌, [], All, vec_len}
use Rattle.mau_poset.proofs.rows.empty_lists.Given as goal

abbrev pub invariant-loop : goal.invariant-loop
invariant-loop l = (vec_len l.lists ≡ l.counter) × All (λ list. list.items ≡ []) l.lists.items
