use Rattle.std.proofs.Common.{◌≡◌, take}
use Rattle.mau_store.specs.View.{numbers}
use Rattle.mau_sorts.specs.Derived.{sets, sets_at}
use Rattle.mau_sorts.proofs.table.SortTable.sets_of.Given as goal

abbrev pub invariant-loop-id : goal.invariant-loop-id
invariant-loop-id l = sets l.found.items ≡ sets_at l.self (take l.id-index (numbers l.ids))
