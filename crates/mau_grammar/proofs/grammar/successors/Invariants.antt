use Rattle.std.proofs.Common.{◌≡◌}
use Rattle.mau_grammar.specs.Grammar.{successors_to}
use Rattle.mau_grammar.proofs.grammar.successors.Given as goal

abbrev pub invariant-loop-i : goal.invariant-loop-i
invariant-loop-i l = l.ops.items ≡ successors_to l.sig l.i
