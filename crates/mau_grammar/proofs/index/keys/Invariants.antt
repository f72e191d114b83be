use Rattle.std.proofs.Common.{◌≡◌}
use Rattle.mau_grammar.specs.Index.{keys_to}
use Rattle.mau_grammar.proofs.index.keys.Given as goal

abbrev pub invariant-loop-i : goal.invariant-loop-i
invariant-loop-i l = l.keys.items ≡ keys_to l.productions l.i
