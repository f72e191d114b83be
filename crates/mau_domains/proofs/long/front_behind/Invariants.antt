use Rattle.std.proofs.Common.{◌≡◌, ◌≤◌, length}
use Rattle.mau_lists.specs.Terms.{by_tree, no_term}
use Rattle.mau_lists.specs.Following.{next_front}
use Rattle.mau_lists.proofs.Steps.{front_found}
use Rattle.mau_domains.proofs.long.front_behind.Given as goal

abbrev pub invariant-loop-i : goal.invariant-loop-i
invariant-loop-i l = record {
  same : next_front (by_tree l.store) l.last l.items ≡ front_found (by_tree l.store) no_term l.last l.items l.i;
  met : l.i ≤ length l.last;
}
