use Rattle.std.proofs.Common.{◌≡◌}
use Rattle.mau_grammar.specs.Index.{wordless_to}
use Rattle.mau_grammar.proofs.index.wordless.Given as goal

abbrev pub invariant-loop-i : goal.invariant-loop-i
invariant-loop-i l = l.numbers.items ≡ wordless_to l.productions l.i
