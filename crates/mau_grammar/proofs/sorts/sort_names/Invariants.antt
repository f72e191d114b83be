use Rattle.std.proofs.Common.{◌≡◌, ◌++◌, drop}
use Rattle.mau_grammar.specs.Productions.{sort_names}
use Rattle.mau_grammar.proofs.sorts.sort_names.Given as goal

abbrev pub invariant-loop-number : goal.invariant-loop-number
invariant-loop-number l = l.sorts.items ++ sort_names l.poset l.number (drop l.number l.names) ≡ sort_names l.poset 0 l.names
