use Rattle.std.proofs.Common.{◌≡◌, drop}
use Rattle.mau_terms.specs.Subst.{has_variable}
use Rattle.mau_terms.specs.View.{variable_of}
use Rattle.mau_making.specs.Variables.{variables_in}
use Rattle.mau_making.proofs.variables.is_among.Given as goal

abbrev pub invariant-loop-other : goal.invariant-loop-other
invariant-loop-other l = has_variable (variables_in l.found) (variable_of l.variable) ≡ has_variable (variables_in (drop l.other-index l.found)) (variable_of l.variable)
