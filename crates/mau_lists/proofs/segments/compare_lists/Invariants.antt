use Rattle.std.proofs.Common.{◌≡◌, ◌≤◌, length, drop}
use Rattle.std.specs.Cmp.Lexicographic.{slice_cmp}
use Rattle.mau_lists.specs.Terms.{by_tree}
use Rattle.mau_lists.proofs.segments.compare_lists.Given as goal

abbrev pub invariant-loop-i : goal.invariant-loop-i
invariant-loop-i l = record {
  same : slice_cmp (by_tree l.store) l.first l.second ≡ slice_cmp (by_tree l.store) (drop l.i l.first) (drop l.i l.second);
  within : l.i ≤ length l.second;
}
