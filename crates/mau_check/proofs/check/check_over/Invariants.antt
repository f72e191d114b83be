use Rattle.std.proofs.Common.{List, take}
use Rattle.std.specs.Prelude.{Option}
use Rattle.mau_terms.specs.Tree.{Tree}
use Rattle.mau_store.specs.Node.{Extends}
use Rattle.mau_logic.specs.Says.{all_said}
use Rattle.mau_logic.specs.Justified.{AreJustifiedOver}
use Rattle.mau_check.specs.Kept.{AreKept}
use Rattle.mau_check.specs.Said.{AreSaid}
use Rattle.mau_check.specs.Told.{IsPlainTable}
use Rattle.mau_check.proofs.check.check_over.Given as goal

abbrev pub invariant-loop-i : goal.invariant-loop-i
invariant-loop-i g l = record {
  extends : Extends l.fn.store l.store;
  plain : IsPlainTable l.program.sig l.store l.plain;
  said : (terms : List (Option Tree)) → AreKept l.program.sig l.fn.store l.kept terms → AreSaid l.program.sig l.store l.said.items (all_said terms (take l.i l.facts));
  justified : (terms : List (Option Tree)) → AreKept l.program.sig l.fn.store l.kept terms → AreJustifiedOver l.program (g.N.Natives.operators l.natives) terms l.facts l.i;
}
