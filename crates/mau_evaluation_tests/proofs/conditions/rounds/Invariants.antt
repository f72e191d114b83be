use Rattle.mau_cond.specs.Known.{IsKnown}
use Rattle.mau_evaluation_tests.proofs.conditions.rounds.Given as goal

abbrev pub invariant-loop : goal.invariant-loop
invariant-loop g l = IsKnown l.sig l.store l.sorts l.run
