use Rattle.std.proofs.Common.{◌≡◌, map, take, All}
use Rattle.mau_signature.specs.Faults.{IsSort}
use Rattle.mau_declare.specs.Flattened.{variable_at}
use Rattle.mau_declare.proofs.flatten.variables.Given as goal

abbrev pub invariant-loop-declared : goal.invariant-loop-declared
invariant-loop-declared l = record {
  value : l.found.items ≡ map (variable_at l.words l.poset) (take l.declared-index l.elements.variables);
  sorts : All (λ alias. IsSort l.poset alias.sort) l.found.items;
}
