use Rattle.std.proofs.Common.{◌≡◌, sym, ap, ◌∙◌, subst}
use Rattle.mau_rules.specs.Runnable.{GoesBy}
use Rattle.mau_strategy_tests.proofs.running.begun.Goals as goal

pub value_of-requires-clause-program : goal.value_of-requires-clause-program
value_of-requires-clause-program g c = c.requires.goes_by.program

pub value_of-requires-clause-fits : goal.value_of-requires-clause-fits
value_of-requires-clause-fits g c = c.requires.fits c.new-store.result

pub begin-requires-clause-definitions : goal.begin-requires-clause-definitions
begin-requires-clause-definitions g c = c.requires.lawful.strategies

pub begin-requires-clause-goes_by : goal.begin-requires-clause-goes_by
begin-requires-clause-goes_by g c = subst (GoesBy c.args.program.now) (sym c.in_ok-start.ensures.meanings) c.requires.goes_by

pub begin-requires-clause-limit : goal.begin-requires-clause-limit
begin-requires-clause-limit g c = c.requires.limit ∙ sym (ap (λ m. m.limit) c.in_ok-start.ensures.meanings)

pub returns-clause-fits : goal.returns-clause-fits
returns-clause-fits g c =
    subst (λ e. g.E.Evaluator.fits e c.in_ok-run.run'.rest.value.store) (sym c.in_ok-run.ensures.evaluator)
    (subst (g.E.Evaluator.fits c.value_of.new.evaluator) (sym c.in_ok-run.ensures.store) c.in_ok-start.ensures.fits)

pub returns-clause-meanings : goal.returns-clause-meanings
returns-clause-meanings g c = ap g.E.Evaluator.meanings c.in_ok-run.ensures.evaluator ∙ c.in_ok-start.ensures.meanings
