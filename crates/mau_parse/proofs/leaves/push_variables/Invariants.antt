use Rattle.std.proofs.Common.{◌≡◌, ◌++◌, map, take}
use Rattle.mau_parse.specs.Listed.{variable_at}
use Rattle.mau_parse.specs.Readings.{all_seen}
use Rattle.mau_parse.proofs.leaves.push_variables.Given as goal

abbrev pub invariant-loop-reading : goal.invariant-loop-reading
invariant-loop-reading l = record {
  leaves : l.out.items ≡ l.fn.out.items ++ map (variable_at l.words l.fn.pairs l.i) (all_seen (take l.reading-index l.readings));
  pairs : l.pairs ≡ l.fn.pairs;
}
