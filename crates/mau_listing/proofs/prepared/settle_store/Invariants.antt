use Rattle.std.proofs.Common.{◌<◌, ℕ}
use Rattle.mau_sorts.specs.HasSort.{Known}
use Rattle.mau_sorts.specs.Table.{IsSettled, AreOver, KeepsEntries}
use Rattle.mau_listing.specs.Asked.{IsTableOf, IsClosedTable}
use Rattle.mau_listing.proofs.prepared.settle_store.Given as goal

abbrev pub invariant-loop-i : goal.invariant-loop-i
invariant-loop-i l = record {
  settled : (j : ℕ) → j < l.i → IsSettled l.sorts j;
  kept : KeepsEntries l.fn.sorts l.sorts;
  over : AreOver l.sig.hierarchy l.sorts;
  table : (known : Known) → IsTableOf l.sig known l.store l.fn.sorts → IsTableOf l.sig known l.store l.sorts;
  closed : IsClosedTable l.store l.fn.sorts → IsClosedTable l.store l.sorts;
}
