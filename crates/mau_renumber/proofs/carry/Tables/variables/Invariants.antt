use Rattle.std.proofs.Common.{◌≡◌, ◌≤◌, take, length}
use Rattle.mau_renumber.specs.Carried.{variables_to}
use Rattle.mau_renumber.specs.Tables.{sorts_in}
use Rattle.mau_renumber.proofs.carry.Tables.variables.Given as goal

abbrev pub invariant-loop-index : goal.invariant-loop-index
invariant-loop-index l = record {
  value : l.found ≡ variables_to (sorts_in l.self) (take l.index l.vars);
  few : length l.found ≤ l.index;
}
