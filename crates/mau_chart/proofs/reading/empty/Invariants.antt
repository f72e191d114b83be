use Rattle.std.proofs.Common.{◌≡◌, ℕ, [], length}
use Rattle.mau_chart.specs.Table.{cells}
use Rattle.mau_chart.proofs.reading.empty.Given as goal

abbrev pub invariant-loop : goal.invariant-loop
invariant-loop l = record { rows : length l.rows.items ≡ l.counter; empty : (i : ℕ) → cells l.rows.items i ≡ [] }
