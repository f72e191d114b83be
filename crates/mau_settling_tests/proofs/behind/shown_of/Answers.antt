use Rattle.mau_settling_tests.proofs.behind.shown_of.Goals as goal

pub push_solutions-requires-clause-fits : goal.push_solutions-requires-clause-fits
push_solutions-requires-clause-fits c = c.in_ok-evaluator.ensures.fits c.new-store.result
