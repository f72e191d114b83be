use Rattle.std.proofs.Common.{◌≡◌, length}
use Rattle.mau_store.specs.Node.{Extends}
use Rattle.mau_prove.specs.Copies.{AreCopies}
use Rattle.mau_prove.proofs.copies.copy_terms.Given as goal

abbrev pub invariant-loop-i : goal.invariant-loop-i
invariant-loop-i l = record {
  copies : AreCopies l.other l.store l.ids.items;
  counted : length l.ids.items ≡ l.i;
  extends : Extends l.fn.store l.store;
}
