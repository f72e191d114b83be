use Rattle.std.proofs.Common.{◌<◌, ◌≤◌, length, drop}
use Rattle.mau_strat.specs.Traces.{IsWay}
use Rattle.mau_strat.proofs.trace.fill.Given as goal

abbrev pub invariant-loop-place : goal.invariant-loop-place
invariant-loop-place l = record {
  before : l.place ≤ l.begin;
  within : l.begin < length l.room;
  way : IsWay l.listed l.parents l.place (drop l.begin l.room);
}

abbrev pub decreases-loop-place : goal.decreases-loop-place
decreases-loop-place l = l.place
