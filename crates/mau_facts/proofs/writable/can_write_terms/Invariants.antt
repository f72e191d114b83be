use Rattle.std.proofs.Common.{◌≡◌, ℕ, ◌<◌, get_or}
use Rattle.std.specs.Prelude.{All}
use Rattle.mau_facts.specs.declared.document.TermLine.{TermLine}
use Rattle.mau_facts.specs.Fields.{IsField, term_fields}
use Rattle.mau_facts.proofs.writable.can_write_terms.Given as goal

abbrev pub invariant-loop-i : goal.invariant-loop-i
invariant-loop-i l = (j : ℕ) (d : TermLine) → j < l.i → All (IsField j 0) (term_fields (get_or l.terms j d))
