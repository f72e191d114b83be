use Rattle.std.proofs.Common.{◌≡◌, ◌++◌, take}
use Rattle.mau_grammar.specs.Leaves.{aliases_at}
use Rattle.mau_parse.specs.Readings.{all_seen}
use Rattle.mau_parse.proofs.readings.push_aliases.Given as goal

abbrev pub invariant-loop-alias : goal.invariant-loop-alias
invariant-loop-alias l = all_seen l.out.items ≡ all_seen l.fn.out.items ++ aliases_at (take l.alias-index l.grammar.aliases) l.word l.i
