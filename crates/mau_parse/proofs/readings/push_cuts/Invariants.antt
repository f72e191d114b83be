use Rattle.std.proofs.Common.{◌≡◌, ◌++◌}
use Rattle.mau_grammar.specs.Leaves.{cuts_to}
use Rattle.mau_parse.specs.Readings.{all_seen}
use Rattle.mau_parse.proofs.readings.push_cuts.Given as goal

abbrev pub invariant-loop-colon : goal.invariant-loop-colon
invariant-loop-colon l = all_seen l.out.items ≡ all_seen l.fn.out.items ++ cuts_to l.grammar.sorts l.word l.i l.colon
