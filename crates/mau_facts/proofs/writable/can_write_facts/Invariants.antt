use Rattle.std.proofs.Common.{◌≡◌, ℕ, ◌<◌, get_or}
use Rattle.std.specs.Prelude.{All}
use Rattle.mau_facts.specs.declared.document.Fact.{Fact}
use Rattle.mau_facts.specs.Fields.{IsField, fact_fields, HasForm}
use Rattle.mau_facts.proofs.writable.can_write_facts.Given as goal

abbrev pub invariant-loop-i : goal.invariant-loop-i
invariant-loop-i l = record {
  forms : (j : ℕ) (d : Fact) → j < l.i → HasForm (get_or l.facts j d);
  fields : (j : ℕ) (d : Fact) → j < l.i → All (IsField l.count j) (fact_fields (get_or l.facts j d));
}
