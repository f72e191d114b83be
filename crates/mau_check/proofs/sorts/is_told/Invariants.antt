use Rattle.mau_check.proofs.sorts.is_told.Given as goal

abbrev pub invariant-loop-lower : goal.invariant-loop-lower
invariant-loop-lower l = Unit {0}
