use Rattle.std.proofs.Common.{IfSome}
use Rattle.std.specs.Option.{option_map}
use Rattle.mau_store.specs.Trees.{trees_at}
use Rattle.mau_store.specs.View.{numbers}
use Rattle.mau_lists.specs.Lists.{IsPart}
use Rattle.mau_lists.specs.Listed.{parts_left}
use Rattle.mau_domains.specs.Stored.{list_in}
use Rattle.mau_domains.proofs.Longer.{IsFound}
use Rattle.mau_domains.proofs.long.next_long_part.Given as goal

abbrev pub invariant-loop-list : goal.invariant-loop-list
invariant-loop-list l = record {
  found : IsFound (λ xs. IsPart xs (trees_at l.store (numbers l.items))) (trees_at l.store (numbers l.last)) (list_in l.store l.list);
  part : IfSome l.list (λ v. IsPart (numbers v.items) (numbers l.items));
}

abbrev pub decreases-loop-list : goal.decreases-loop-list
decreases-loop-list l = parts_left l.store (record { items = numbers l.items; due = option_map (λ v. numbers v.items) l.list })
