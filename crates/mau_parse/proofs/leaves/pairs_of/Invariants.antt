use Rattle.std.proofs.Common.{◌≡◌, ◌<◌, [], length, map, take}
use Rattle.mau_grammar.specs.Leaves.{pair_of}
use Rattle.mau_parse.specs.Readings.{all_seen}
use Rattle.mau_parse.specs.Terms.{added}
use Rattle.mau_parse.proofs.leaves.pairs_of.Given as goal

abbrev pub invariant-loop-reading : goal.invariant-loop-reading
invariant-loop-reading l = record {
  pairs : l.pairs ≡ added [] (map pair_of (all_seen (take l.reading-index l.readings)));
  few : length l.pairs < 4294967295;
}
