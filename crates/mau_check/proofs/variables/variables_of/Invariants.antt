use Rattle.std.proofs.Common.{◌≡◌, take}
use Rattle.mau_terms.specs.Subst.{variables}
use Rattle.mau_terms.specs.View.{tree_of}
use Rattle.mau_api.specs.Variables.{condition_variables}
use Rattle.mau_check.specs.Variables.{AreOfSorts, variables_in}
use Rattle.mau_check.proofs.variables.variables_of.Given as goal

abbrev pub invariant-loop-fragment : goal.invariant-loop-fragment
invariant-loop-fragment l = record {
  value : variables_in l.found.items ≡ condition_variables (variables (tree_of l.term)) (take l.fragment-index l.cond);
  sorts : AreOfSorts l.sig l.found.items;
}
