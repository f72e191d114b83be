use Rattle.std.proofs.Common.{sym, subst, All}
use Rattle.mau_built_ins.specs.NativeNumerals.{GivesNumerals}
use Rattle.mau_settling_tests.proofs.conditional.shown_of.Goals as goal

pub new-requires-clause-numerals : goal.new-requires-clause-numerals
new-requires-clause-numerals g c = subst (All GivesNumerals) (sym c.new-natives.ensures) c.requires.numerals

pub evaluate-requires-clause-fits : goal.evaluate-requires-clause-fits
evaluate-requires-clause-fits g c = c.in_ok-evaluator.ensures.fits c.args.store.now
