use Rattle.std.proofs.Common.{◌≡◌}
use Rattle.mau_grammar.specs.Leaves.{readings_to}
use Rattle.mau_parse.specs.Readings.{all_seen}
use Rattle.mau_parse.proofs.readings.readings_of.Given as goal

abbrev pub invariant-loop-i : goal.invariant-loop-i
invariant-loop-i l = all_seen l.out.items ≡ readings_to l.grammar l.words l.i
