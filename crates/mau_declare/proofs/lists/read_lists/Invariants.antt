use Rattle.std.proofs.Common.{◌≡◌, drop, length}
use Rattle.mau_declare.specs.Readings.{read_all}
use Rattle.mau_declare.specs.Elements.{AreListsBelow, list_step, no_lists}
use Rattle.mau_declare.proofs.lists.read_lists.Given as goal

abbrev pub invariant-loop-list : goal.invariant-loop-list
invariant-loop-list l = record {
  rest : read_all (list_step l.words l.sorts) no_lists l.lists ≡ read_all (list_step l.words l.sorts) l.read (drop l.list-index l.lists);
  below : AreListsBelow (length l.sorts) l.read;
}
