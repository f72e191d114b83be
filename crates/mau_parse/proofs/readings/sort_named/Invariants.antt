use Rattle.std.proofs.Common.{◌≡◌, drop}
use Rattle.mau_grammar.specs.Leaves.{sort_from}
use Rattle.mau_parse.proofs.readings.sort_named.Given as goal

abbrev pub invariant-loop-i : goal.invariant-loop-i
invariant-loop-i l = sort_from (drop l.i l.sorts) l.i l.name ≡ sort_from l.sorts 0 l.name
