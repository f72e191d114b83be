use Rattle.std.proofs.Common.{◌≡◌, ◌<◌, ◌+◌, ℕ, length, get_or, All}
use Rattle.mau_signature.specs.Faults.{IsSort}
use Rattle.mau_module.specs.Included.{number_from}
use Rattle.mau_module.proofs.numbering.number_table.Given as goal

abbrev pub invariant-loop-i : goal.invariant-loop-i
invariant-loop-i l = record {
  len : length l.table.items ≡ l.«module».signature.hierarchy.sorts + l.i;
  each : (a : ℕ) → a < l.«module».signature.hierarchy.sorts + l.i → get_or l.table.items a 0 ≡ number_from l.«module» l.news l.poset a;
  first : (a : ℕ) → a < l.«module».signature.hierarchy.sorts → get_or l.table.items a 0 < l.poset.sorts;
  sorts : All (IsSort l.poset) l.table.items;
}
