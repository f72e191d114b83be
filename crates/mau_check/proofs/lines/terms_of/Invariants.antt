use Rattle.std.proofs.Common.{◌≡◌, take}
use Rattle.mau_store.specs.Node.{Extends}
use Rattle.mau_logic.specs.Lines.{lines_of}
use Rattle.mau_check.specs.Kept.{AreKept}
use Rattle.mau_check.proofs.lines.terms_of.Given as goal

abbrev pub invariant-loop-line : goal.invariant-loop-line
invariant-loop-line l = record {
  extends : Extends l.fn.store l.store;
  kept : AreKept l.program.sig l.store l.kept.items (lines_of l.program.sig l.program.sorts (take l.line-index l.lines)).terms;
  pairs : l.variables ≡ (lines_of l.program.sig l.program.sorts (take l.line-index l.lines)).pairs;
}
