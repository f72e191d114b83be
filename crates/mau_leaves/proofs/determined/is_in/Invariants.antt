use Rattle.std.proofs.Common.{◌≡◌, false, map, take}
use Rattle.mau_terms.specs.Subst.{has_variable}
use Rattle.mau_terms.specs.View.{variable_of}
use Rattle.mau_leaves.proofs.determined.is_in.Given as goal

abbrev pub invariant-loop-own : goal.invariant-loop-own
invariant-loop-own l = has_variable (map variable_of (take l.own-index l.own-items)) (variable_of l.variable) ≡ false
