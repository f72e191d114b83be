use Rattle.mau_settling_tests.proofs.evaluated.shown_of.Goals as goal

pub evaluate-requires-clause-fits : goal.evaluate-requires-clause-fits
evaluate-requires-clause-fits c = c.in_ok-evaluator.ensures.fits c.args.store.now
