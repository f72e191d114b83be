use Rattle.std.proofs.Common.{◌≡◌, ◌++◌, drop}
use Rattle.mau_facts.specs.Lines.{fact_lines}
use Rattle.mau_facts.specs.Spelling.{lines_text}
use Rattle.mau_facts.proofs.show.write_facts.Given as goal

abbrev pub invariant-loop-i : goal.invariant-loop-i
invariant-loop-i l = l.out.items ++ lines_text (fact_lines 0 l.i (drop l.i l.facts)) ≡ l.fn.out.items ++ lines_text (fact_lines 0 0 l.facts)
