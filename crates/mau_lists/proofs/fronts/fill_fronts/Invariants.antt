use Rattle.std.proofs.Common.{◌<◌, drop}
use Rattle.mau_lists.specs.Fronts.{ShareFront, AreFronts}
use Rattle.mau_lists.proofs.fronts.fill_fronts.Given as goal

abbrev pub invariant-loop-i : goal.invariant-loop-i
invariant-loop-i l = record {
  known : AreFronts l.store l.list l.fronts l.i;
  window : ShareFront l.store l.list (drop l.window.from l.list) l.window.len;
  reached : l.window.from < l.i;
  started : 0 < l.window.len → 0 < l.window.from;
}
