use Rattle.mau_store.specs.Node.{Extends}
use Rattle.mau_prove.specs.Making.{AreSomeKept}
use Rattle.mau_prove.proofs.known.complete_known.Given as goal

abbrev pub invariant-loop-i : goal.invariant-loop-i
invariant-loop-i l = record {
  kept : AreSomeKept l.program.sig l.store l.kept.items;
  extends : Extends l.fn.store l.store;
}
