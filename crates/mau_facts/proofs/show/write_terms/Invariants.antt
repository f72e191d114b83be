use Rattle.std.proofs.Common.{◌≡◌, ◌++◌, drop}
use Rattle.mau_facts.specs.Lines.{term_lines}
use Rattle.mau_facts.specs.Spelling.{lines_text}
use Rattle.mau_facts.proofs.show.write_terms.Given as goal

abbrev pub invariant-loop-i : goal.invariant-loop-i
invariant-loop-i l = l.out.items ++ lines_text (term_lines l.i (drop l.i l.terms)) ≡ l.fn.out.items ++ lines_text (term_lines 0 l.terms)
