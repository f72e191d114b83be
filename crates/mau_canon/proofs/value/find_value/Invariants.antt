use Rattle.std.proofs.Common.{◌≡◌, List, drop}
use Rattle.mau_store.specs.Node.{Node}
use Rattle.mau_terms.specs.View.{variable_of}
use Rattle.mau_canon.specs.Values.{values_in}
use Rattle.mau_canon.proofs.value.find_value.Given as goal

abbrev pub invariant-loop-i : goal.invariant-loop-i
invariant-loop-i l = (nodes : List Node) → values_in nodes l.variables l.values (variable_of l.variable) ≡ values_in nodes (drop l.i l.variables) (drop l.i l.values) (variable_of l.variable)
