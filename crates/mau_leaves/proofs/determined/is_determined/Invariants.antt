use Rattle.std.proofs.Common.{◌≡◌, All, false, take}
use Rattle.mau_terms.specs.Subst.{has_variable}
use Rattle.mau_terms.specs.View.{variable_of}
use Rattle.mau_leaves.specs.Matched.{matched_in}
use Rattle.mau_leaves.proofs.determined.is_determined.Given as goal

abbrev pub invariant-loop-fragment : goal.invariant-loop-fragment
invariant-loop-fragment l = All (λ f. has_variable (matched_in f) (variable_of l.variable) ≡ false) (take l.fragment-index l.fragment-items)
