use Rattle.std.proofs.Common.{◌≡◌, map, take}
use Rattle.mau_terms.specs.View.{variable_of}
use Rattle.mau_leaves.specs.Searches.{variables_in}
use Rattle.mau_leaves.proofs.testing.variables_of.Given as goal

abbrev pub invariant-loop-variable : goal.invariant-loop-variable
invariant-loop-variable l = map variable_of l.variables.items ≡ variables_in (take l.variable-index l.bound)
