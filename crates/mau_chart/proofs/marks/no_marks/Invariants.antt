use Rattle.std.proofs.Common.{◌≡◌, ℕ, ◌≤◌, max, List, length}
use Rattle.mau_chart.specs.Chart.{Edge}
use Rattle.mau_chart.specs.Marks.{AllMarked}
use Rattle.mau_chart.proofs.marks.no_marks.Given as goal

abbrev pub invariant-loop : goal.invariant-loop
invariant-loop l = record {
  count : length l.marks.items ≡ l.counter;
  most : l.counter ≤ max l.count 1;
  marked : (rows : ℕ → List Edge) → AllMarked rows l.marks.items;
}
