use Rattle.std.proofs.Common.{◌≡◌, drop}
use Rattle.std.specs.List.{list_any}
use Rattle.mau_searched.specs.Searched
use Rattle.mau_searched.proofs.strategies.are_undefined.Given as goal

abbrev pub invariant-loop-definition : goal.invariant-loop-definition
invariant-loop-definition l = list_any (Searched.is_undefined l.rules) (drop l.definition-index l.definitions) ≡ list_any (Searched.is_undefined l.rules) l.definitions
