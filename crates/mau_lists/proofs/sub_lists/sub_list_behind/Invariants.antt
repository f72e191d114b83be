use Rattle.std.proofs.Common.{◌≡◌, ◌≤◌, length, take, IfSome}
use Rattle.mau_lists.specs.Terms.{by_tree, no_term}
use Rattle.mau_lists.specs.Lists.{IsSubList}
use Rattle.mau_lists.specs.Following.{next_sub_list, replaced, HasRoom, IsAboveLast}
use Rattle.mau_lists.proofs.Steps.{found}
use Rattle.mau_lists.proofs.sub_lists.sub_list_behind.Given as goal

abbrev pub invariant-loop-i : goal.invariant-loop-i
invariant-loop-i l = record {
  same : next_sub_list (by_tree l.store) l.last l.items ≡ found (by_tree l.store) no_term l.last l.items l.depth l.i l.best;
  depth_last : l.depth ≤ length l.last;
  depth_seen : l.depth ≤ l.i;
  room : HasRoom l.last l.items l.best;
  met : IsSubList (take l.depth l.last) (take l.i l.items);
  part : IfSome (replaced l.last l.best) (λ list. IsSubList list l.items);
  above : IsAboveLast (by_tree l.store) no_term l.items l.i l.above;
}
