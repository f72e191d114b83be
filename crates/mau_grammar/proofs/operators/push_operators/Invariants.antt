use Rattle.std.proofs.Common.{◌≡◌, ◌++◌}
use Rattle.mau_grammar.specs.Productions.{of_operators}
use Rattle.mau_grammar.proofs.operators.push_operators.Given as goal

abbrev pub invariant-loop-i : goal.invariant-loop-i
invariant-loop-i l = l.out.items ≡ l.fn.out.items ++ of_operators l.sig l.i
