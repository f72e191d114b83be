use Rattle.std.proofs.Common.{◌≡◌, take}
use Rattle.mau_api.specs.Variables.{condition_variables}
use Rattle.mau_making.specs.Variables.{AreOfSorts, variables_in}
use Rattle.mau_making.proofs.variables.add_condition.Given as goal

abbrev pub invariant-loop-fragment : goal.invariant-loop-fragment
invariant-loop-fragment l = record {
  value : variables_in l.found.items ≡ condition_variables (variables_in l.fn.found.items) (take l.fragment-index l.cond);
  sorts : AreOfSorts l.sig l.found.items;
}
