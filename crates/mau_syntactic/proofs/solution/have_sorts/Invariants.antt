use Rattle.std.proofs.Common.{[], take}
use Rattle.mau_trial.specs.Tried.{HoldsAtEach, IsFor}
use Rattle.mau_syntactic.specs.Sorted.{as_place}
use Rattle.mau_syntactic.proofs.solution.have_sorts.Given as goal

abbrev pub invariant-loop-i : goal.invariant-loop-i
invariant-loop-i l = HoldsAtEach (λ x v. IsFor l.sig.hierarchy l.sorts [] (as_place x) v) (take l.i l.variables) (take l.i l.values)
