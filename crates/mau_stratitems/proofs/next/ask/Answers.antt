use Rattle.mau_stratitems.proofs.Standing.{asked_came}
use Rattle.mau_stratitems.proofs.next.ask.Goals as goal

pub returns-clause-came : goal.returns-clause-came
returns-clause-came g c =
    asked_came g.L.Lister.asked g.L.Lister.given g.L.Lister.is_for g.L.Lister.with_context c.args.program.now (g.E.Evaluator.meanings c.args.evaluator) c.args.run
    (g.E.Evaluator.meanings c.ask_watched.result.1) (g.E.Evaluator.table c.ask_watched.result.1) c.ask_watched.result.0 c.ask_watched.result.2 c.ask_watched.ensures.leaves c.ask_watched.ensures.asked
