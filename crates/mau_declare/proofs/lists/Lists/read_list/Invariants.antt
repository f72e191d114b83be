use Rattle.std.proofs.Common.{◌≡◌, drop, length}
use Rattle.mau_declare.specs.Readings.{read_all}
use Rattle.mau_declare.specs.Elements.{AreListsBelow, sort_step, list_step}
use Rattle.mau_declare.proofs.lists.Lists.read_list.Given as goal

abbrev pub invariant-loop-sort : goal.invariant-loop-sort
invariant-loop-sort l = record {
  rest : list_step l.words l.sorts l.fn.self l.list ≡ read_all (sort_step l.words l.sorts) l.self (drop l.sort-index l.list);
  below : AreListsBelow (length l.sorts) l.fn.self → AreListsBelow (length l.sorts) l.self;
}
