use Rattle.mau_sorts.specs.Derived.{sets}
use Rattle.mau_sorts.proofs.Derivations.{IsRest}
use Rattle.mau_sorts.proofs.derive.of_list.Given as goal

abbrev pub invariant-loop-first : goal.invariant-loop-first
invariant-loop-first l = IsRest l.sig l.op.0 (sets l.items) l.first l.rest

abbrev pub decreases-loop-first : goal.decreases-loop-first
decreases-loop-first l = l.first
