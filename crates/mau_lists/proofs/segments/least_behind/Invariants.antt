use Rattle.std.proofs.Common.{◌≡◌, ◌≤◌, drop}
use Rattle.mau_lists.specs.Terms.{by_tree}
use Rattle.mau_lists.specs.Following.{next_part, least_of, cut, FitsIn}
use Rattle.mau_lists.specs.Fronts.{ShareFront}
use Rattle.mau_lists.proofs.SharedFronts.{BeginsAs}
use Rattle.mau_lists.proofs.segments.least_behind.Given as goal

abbrev pub invariant-loop-i : goal.invariant-loop-i
invariant-loop-i l = record {
  same : next_part (by_tree l.store) l.last l.items ≡ least_of (by_tree l.store) (cut l.items l.best) (next_part (by_tree l.store) l.last (drop l.i l.items));
  room : FitsIn l.items l.best;
  begins : BeginsAs l.store l.last l.items l.best;
  window : ShareFront l.store l.last (drop l.window.from l.items) l.window.len;
  reached : l.window.from ≤ l.i;
}
