use Rattle.std.proofs.Common.{ℕ, List, ◌<◌}
use Rattle.mau_signature.specs.OverSignature.{IsTreeOver}
use Rattle.mau_store.specs.Trees.{tree_at}
use Rattle.mau_sorts.specs.Table.{IsSettled, AreEntries, AreOver}
use Rattle.mau_logic.specs.Says.{Says}
use Rattle.mau_logic.specs.Shown.{known_by}
use Rattle.mau_check.specs.Said.{AreSaid}
use Rattle.mau_check.proofs.sorts.sorts_by.Given as goal

abbrev pub invariant-loop-i : goal.invariant-loop-i
invariant-loop-i l = record {
  settled : (j : ℕ) → j < l.i → IsTreeOver l.sig (tree_at l.store j) → IsSettled l.table j;
  over : AreOver l.sig.hierarchy l.table;
  entries : (us : List Says) → AreSaid l.sig l.store l.uses us → AreEntries l.sig (known_by l.sig us) l.store l.table;
}
