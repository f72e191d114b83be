use Rattle.std.proofs.Common.{◌≡◌, length, map}
use Rattle.mau_rules.specs.ByTop.{IsIdleTable}
use Rattle.mau_rules.proofs.by_top.RulesByTop.note.Given as goal

abbrev pub invariant-loop-number : goal.invariant-loop-number
invariant-loop-number l = record {
  orders : l.self.orders ≡ l.fn.self.orders;
  count : length l.self.idle.items ≡ l.number;
  table : IsIdleTable (map (λ list. list.items) l.fn.self.orders.items) l.store l.self.idle.items;
}
