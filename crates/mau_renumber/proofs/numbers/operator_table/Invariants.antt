use Rattle.std.proofs.Common.{◌≡◌, ◌≤◌, ◌+◌, ℕ, length, get_or}
use Rattle.mau_renumber.specs.Carried.{operator_to}
use Rattle.mau_renumber.proofs.numbers.operator_table.Given as goal

abbrev pub invariant-loop-i : goal.invariant-loop-i
invariant-loop-i l = record {
  len : length l.table.items ≡ l.i + 1;
  each : (n : ℕ) → n ≤ l.i → get_or l.table.items n 0 ≡ operator_to (λ a. get_or l.sorts a 0) l.old l.new n;
}
