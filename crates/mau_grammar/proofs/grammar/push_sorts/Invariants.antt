use Rattle.std.proofs.Common.{◌≡◌, ◌++◌, map, drop}
use Rattle.mau_grammar.specs.Productions.{sorted}
use Rattle.mau_grammar.proofs.grammar.push_sorts.Given as goal

abbrev pub invariant-loop-sort : goal.invariant-loop-sort
invariant-loop-sort l = l.out.items ++ map sorted (drop l.sort-index l.sorts) ≡ l.fn.out.items ++ map sorted l.sorts
