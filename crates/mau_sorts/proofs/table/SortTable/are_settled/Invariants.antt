use Rattle.std.proofs.Common.{ℕ, ◌<◌, get_or}
use Rattle.mau_store.specs.View.{numbers}
use Rattle.mau_sorts.specs.Table.{IsSettled}
use Rattle.mau_sorts.proofs.table.SortTable.are_settled.Given as goal

abbrev pub invariant-loop-id : goal.invariant-loop-id
invariant-loop-id l = (k : ℕ) → k < l.id-index → IsSettled l.self (get_or (numbers l.ids) k 0)
