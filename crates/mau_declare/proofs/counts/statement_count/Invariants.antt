use Rattle.std.proofs.Common.{◌≡◌, ◌≤◌, take}
use Rattle.mau_declare.specs.Counts.{statement_count}
use Rattle.mau_declare.proofs.counts.statement_count.Given as goal

abbrev pub invariant-loop-element : goal.invariant-loop-element
invariant-loop-element l = record {
  counted : l.count ≡ statement_count (take l.element-index l.elements);
  few : l.count ≤ l.element-index;
}
