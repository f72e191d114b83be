use Rattle.std.proofs.Common.{◌≡◌, ◌++◌}
use Rattle.mau_grammar.specs.Productions.{of_kinds}
use Rattle.mau_grammar.proofs.grammar.push_kinds.Given as goal

abbrev pub invariant-loop-i : goal.invariant-loop-i
invariant-loop-i l = l.out.items ≡ l.fn.out.items ++ of_kinds l.poset l.i
