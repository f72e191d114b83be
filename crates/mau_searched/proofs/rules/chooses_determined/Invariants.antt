use Rattle.std.proofs.Common.{◌≡◌, drop}
use Rattle.std.specs.List.{list_any}
use Rattle.mau_searched.specs.Searched
use Rattle.mau_searched.proofs.rules.chooses_determined.Given as goal

abbrev pub invariant-loop-rule : goal.invariant-loop-rule
invariant-loop-rule l = list_any (Searched.is_determined_by l.label) (drop l.rule-index l.rules) ≡ list_any (Searched.is_determined_by l.label) l.rules
