use Rattle.std.proofs.Common.{◌<◌, ℕ, [], get_or}
use Rattle.mau_store.specs.View.{numbers}
use Rattle.mau_sorts.specs.Table.{IsSettled, AreEntries, AreOver, KeepsEntries}
use Rattle.mau_sorts.proofs.table.SortTable.+settle_term.Given as goal

abbrev pub decreases-settle_term : goal.decreases-settle_term
decreases-settle_term l = l.id.0

abbrev pub invariant-loop-arg : goal.invariant-loop-arg
invariant-loop-arg l = record {
  settled : (k : ℕ) → k < l.arg-index → IsSettled l.self (get_or (numbers l.arg-items) k 0);
  value : AreEntries l.sig [] l.store l.fn.self → AreEntries l.sig [] l.store l.self;
  over : AreOver l.sig.hierarchy l.self;
  kept : KeepsEntries l.fn.self l.self;
}
