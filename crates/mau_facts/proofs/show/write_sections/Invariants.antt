use Rattle.std.proofs.Common.{◌≡◌, ◌++◌, drop}
use Rattle.mau_facts.specs.Spelling.{sections_text}
use Rattle.mau_facts.proofs.show.write_sections.Given as goal

abbrev pub invariant-loop-i : goal.invariant-loop-i
invariant-loop-i l = l.out.items ++ sections_text (drop l.i l.sections) ≡ l.fn.out.items ++ sections_text l.sections
