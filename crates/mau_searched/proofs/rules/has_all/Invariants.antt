use Rattle.std.proofs.Common.{◌≡◌, map}
use Rattle.std.specs.List.{list_all}
use Rattle.mau_terms.specs.Subst.{has_variable}
use Rattle.mau_terms.specs.View.{variable_of}
use Rattle.mau_program.specs.Binding.{listed}
use Rattle.mau_searched.proofs.Listed.{has_rest}
use Rattle.mau_searched.proofs.rules.has_all.Given as goal

abbrev pub invariant-loop-index : goal.invariant-loop-index
invariant-loop-index l = has_rest (map variable_of l.variables) l.vars l.index ≡ list_all (has_variable (map variable_of l.variables)) (listed l.vars)
