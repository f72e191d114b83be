use Rattle.std.proofs.Common.{ℕ, All, Contains, take}
use Rattle.mau_terms.specs.declared.ids.TermId.{TermId}
use Rattle.mau_store.specs.Trees.{tree_at}
use Rattle.mau_store.specs.View.{numbers}
use Rattle.mau_sorts.specs.HasSort.{Known}
use Rattle.mau_sorts.specs.Table.{IsSettled, AreOver, KeepsEntries}
use Rattle.mau_listing.specs.Asked.{IsSettleable, IsTableOf, IsClosedTable, MaySettle}
use Rattle.mau_plain.proofs.settled.settled_among.Given as goal

abbrev pub invariant-loop-id : goal.invariant-loop-id
invariant-loop-id l = record {
  settled : All (IsSettled l.sorts) (numbers l.out.items);
  among : All (Contains l.ids) l.out.items;
  complete : (id : TermId) → Contains (take l.id-index l.ids) id → IsSettleable l.sig l.store l.fn.sorts l.subject.0 id.0 → Contains l.out.items id;
  entries : (i : ℕ) → IsSettled l.sorts i → MaySettle l.sig l.store l.fn.sorts (tree_at l.store l.subject.0) i;
  kept : KeepsEntries l.fn.sorts l.sorts;
  over : AreOver l.sig.hierarchy l.sorts;
  table : (known : Known) → IsTableOf l.sig known l.store l.fn.sorts → IsTableOf l.sig known l.store l.sorts;
  closed : IsClosedTable l.store l.fn.sorts → IsClosedTable l.store l.sorts;
}
