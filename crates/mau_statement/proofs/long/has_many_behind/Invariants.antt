use Rattle.std.proofs.Common.{◌≤◌, length, take}
use Rattle.mau_statement.specs.Long.{ArePassed}
use Rattle.mau_statement.proofs.long.has_many_behind.Given as goal

abbrev pub invariant-loop-raw : goal.invariant-loop-raw
invariant-loop-raw l = record {
  passed : ArePassed l.words l.context l.fn.vars (take l.raw-index l.raws) l.many l.kept;
  few : length l.kept ≤ 2000;
}
